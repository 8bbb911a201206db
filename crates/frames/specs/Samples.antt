-- Samples, gains and sums, over integers without bounds.
use Rattle.std.specs.Prelude.{ℕ, suc, ◌-◌, ◌/◌, List, [], ◌∷◌, ℤ, pos, negsuc, ◌+ℤ◌, ◌*ℤ◌, ◌≤ℤ◌, ◌<ℤ◌}
use Rattle.std.specs.Int.{int_max, int_min}
use Rattle.frames.specs.declared.samples.Frame.{Frame}

-- The sample nearest to a number: samples go from −32,768 to 32,767.
abbrev pub clamped : ℤ → ℤ
clamped z = int_max (negsuc 32767) (int_min z (pos 32767))

-- A sample in 16 bits: a negative one counts down from 65,536.
abbrev pub word : ℤ → ℕ
word (pos n) = n
word (negsuc n) = 65536 - suc n

-- A number divided down by 16,384: the quotient rounded toward minus infinity.
abbrev pub divided : ℤ → ℤ
divided (pos n) = pos (n / 16384)
divided (negsuc n) = negsuc (n / 16384)

-- The law of dividing down: 16,384 times the quotient is at most the number, and 16,384 times the next is above it.
abbrev pub DividesDown : ℤ → ℤ → Type 0
DividesDown z q = ((pos 16384 *ℤ q) ≤ℤ z) × (z <ℤ (pos 16384 *ℤ (q +ℤ pos 1)))

-- A sample scaled by a gain, of which 16,384 is unity. Not clamped.
abbrev pub scaled : ℤ → ℤ → ℤ
scaled sample gain = divided (sample *ℤ gain)

-- The frame 0, 0.
abbrev pub silence : Frame
silence = record { left = pos 0; right = pos 0 }

-- The numbers that `f` makes of a list's elements, added exactly.
abbrev pub total : {X : Type 0} → (X → ℤ) → List X → ℤ
total f [] = pos 0
total f (x ∷ xs) = f x +ℤ total f xs
