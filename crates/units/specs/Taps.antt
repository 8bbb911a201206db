-- The taps of a fir.
use Rattle.std.specs.Prelude.{ℕ, List, take, ℤ, pos, ◌*ℤ◌, slice_index_or}
use Rattle.frames.specs.Samples.{total}
use Rattle.frames.specs.declared.samples.Frame.{Frame}
use Rattle.std.specs.List.{range_with_len}
use Rattle.units.specs.declared.settings.FirSettings.{FirSettings}

-- The taps that count, for the newest frame first.
unfoldable pub taps_of : FirSettings → List ℤ
taps_of s = take s.count s.taps

-- On one side, the sum of the first n taps, each times the frame of as many frames before.
abbrev pub tapped : List ℤ → (Frame → ℤ) → (ℕ → Frame) → ℕ → ℤ
tapped taps side past n = total (λ k. slice_index_or taps k (pos 0) *ℤ side (past k)) (range_with_len 0 n)
