-- The parts of the limit's rule.
use Rattle.std.specs.Prelude.{ℕ, max, cond, ℤ, pos, ◌*ℤ◌, ◌==◌, int_div, nat_le, unsigned_abs}
use Rattle.frames.specs.Samples.{silence}
use Rattle.frames.specs.declared.samples.Frame.{Frame}
use Rattle.std.specs.List.{range_with_len}
use Rattle.voices.specs.Kinds.{each_side, greatest}

-- The greater of a frame's two absolute samples.
abbrev pub size : Frame → ℕ
size f = max (unsigned_abs f.left) (unsigned_abs f.right)

-- The greatest size of the newest frames.
abbrev pub peak_within : ℕ → (ℕ → Frame) → ℕ
peak_within frames past = greatest (λ k. size (past k)) (range_with_len 0 frames)

-- A sample times the ceiling over the peak, rounded toward zero.
abbrev pub reduced : ℕ → ℕ → ℤ → ℤ
reduced ceiling peak sample = int_div (sample *ℤ pos ceiling) (pos peak)

-- What a limit answers at a peak where the frame that it lets out is f.
abbrev pub limited : ℕ → ℕ → Frame → Frame
limited ceiling peak f = cond (peak == 0) silence (cond (nat_le peak ceiling) f (each_side (λ side. reduced ceiling peak (side f))))
