use Rattle.racks.proofs.strips.FirKinded.by.Goals as goal
use Rattle.voices.specs.Kinds.{fir_unit}
use Rattle.std.proofs.Common.{ap, ◌∙◌}

pub returns : goal.returns
returns c = c.new.ensures ∙ ap fir_unit c.fir_settings.ensures
