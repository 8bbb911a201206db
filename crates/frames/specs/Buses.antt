-- What a bus makes of the frames that its lines bring.
use Rattle.std.specs.Prelude.{List, ℤ}
use Rattle.frames.specs.Samples.{clamped, scaled, total}
use Rattle.frames.specs.declared.samples.Frame.{Frame}
use Rattle.frames.specs.declared.samples.Part.{Part}

-- What one line brings to each side: its sample, scaled by the line's gain.
abbrev pub left_of : Part → ℤ
left_of p = scaled p.frame.left p.gain

abbrev pub right_of : Part → ℤ
right_of p = scaled p.frame.right p.gain

-- On each side what the lines bring is added exactly, and the sum is clamped once.
abbrev pub bus : List Part → Frame
bus parts = record { left = clamped (total left_of parts); right = clamped (total right_of parts) }
