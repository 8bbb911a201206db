use Rattle.racks.proofs.strips.LimitKinded.by.Goals as goal
use Rattle.voices.specs.Kinds.{limit_unit}
use Rattle.std.proofs.Common.{◌∙◌, ap₂}

pub returns : goal.returns
returns c = c.new.ensures ∙ ap₂ limit_unit c.limit_settings.ensures.lookahead c.limit_settings.ensures.ceiling
