-- What a pan makes of one frame.
use Rattle.std.specs.Prelude.{ℕ}
use Rattle.frames.specs.declared.samples.Frame.{Frame}
use Rattle.voices.specs.Kinds.{pan_rule}

-- The pan's rule, which looks at the newest frame alone.
abbrev pub panned : ℕ → Frame → Frame
panned position f = pan_rule position (λ _. f)
