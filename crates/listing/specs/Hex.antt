-- How numbers and frames are listed: in upper-case hexadecimal digits.
use Rattle.std.specs.Prelude.{ℕ, zero, suc, ◌+◌, ◌/◌, ◌%◌, cond, List, [], ◌∷◌, ◌++◌, ◌==◌, nat_lt}
use Rattle.frames.specs.Samples.{word}
use Rattle.frames.specs.declared.samples.Frame.{Frame}
use Rattle.std.specs.List.{flat_map}

-- The digit of a number below 16: 0 to 9, then A to F.
abbrev pub digit : ℕ → ℕ
digit d = cond (nat_lt d 10) (48 + d) (55 + d)

-- The lowest four digits of a number.
abbrev pub four_digits : ℕ → List ℕ
four_digits n = digit (n / 4096 % 16) ∷ digit (n / 256 % 16) ∷ digit (n / 16 % 16) ∷ digit (n % 16) ∷ []

-- Digits without the zeros in front, of which at most `most` are left out.
abbrev pub without_zeros : ℕ → List ℕ → List ℕ
without_zeros zero ds = ds
without_zeros (suc most) [] = []
without_zeros (suc most) (d ∷ ds) = cond (d == 48) (without_zeros most ds) (d ∷ ds)

-- A number of up to 32 bits: four digits, or as many as it needs.
abbrev pub number : ℕ → List ℕ
number n = without_zeros 4 (four_digits (n / 65536) ++ four_digits n)

-- A frame's line: left and right, four digits each, in 16 bits; then a line feed.
abbrev pub frame_line : Frame → List ℕ
frame_line f = four_digits (word f.left) ++ (four_digits (word f.right) ++ (10 ∷ []))

abbrev pub frame_lines : List Frame → List ℕ
frame_lines = flat_map frame_line
