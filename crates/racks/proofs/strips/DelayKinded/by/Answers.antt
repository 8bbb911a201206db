use Rattle.racks.proofs.strips.DelayKinded.by.Goals as goal
use Rattle.voices.specs.Kinds.{delay_unit}
use Rattle.std.proofs.Common.{ap, ◌∙◌}

pub returns : goal.returns
returns c = c.new.ensures ∙ ap delay_unit c.delay_settings.ensures
