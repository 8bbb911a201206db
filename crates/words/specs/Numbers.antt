-- Numbers as they are spelt.
use Rattle.std.specs.Prelude.{ℕ, ◌+◌, ◌-◌, ◌*◌, Bool, cond, not, ◌&&◌, ◌||◌, List, [], ◌∷◌, length, drop, ℤ, pos, negsuc, Some, None, Option, ◌==◌, nat_le, slice_index}
use Rattle.words.specs.Bytes.{all_digits}

-- The number that digits write after n.
unfoldable pub read_on : ℕ → List ℕ → ℕ
read_on n [] = n
read_on n (c ∷ cs) = read_on (10 * n + (c - 48)) cs

-- One to six digits; a 0 in front stands alone.
abbrev pub well_spelt : List ℕ → Bool
well_spelt ds = all_digits ds && ((nat_le 1 (length ds) && nat_le (length ds) 6) && (length ds == 1 || not (slice_index ds 0 == 48)))

abbrev pub whole : List ℕ → Option ℕ
whole ds = cond (well_spelt ds) (Some (read_on 0 ds)) None

-- A number from low to high.
abbrev pub between : ℕ → ℕ → Option ℕ → Option ℕ
between low high None = None
between low high (Some n) = cond (nat_le low n && nat_le n high) (Some n) None

abbrev pub positive : Option ℕ → Option ℤ
positive None = None
positive (Some n) = Some (pos n)

abbrev pub negative : Option ℕ → Option ℤ
negative None = None
negative (Some n) = Some (negsuc (n - 1))

-- Without the hyphen in front.
abbrev pub unsigned : List ℕ → List ℕ
unsigned bs = cond (slice_index bs 0 == 45) (drop 1 bs) bs

abbrev pub is_negative : List ℕ → Bool
is_negative bs = slice_index bs 0 == 45

-- A gain: from -32768, with a hyphen, to 32767.
abbrev pub gain : List ℕ → Option ℤ
gain bs = cond (is_negative bs) (negative (between 1 32768 (whole (unsigned bs)))) (positive (between 0 32767 (whole (unsigned bs))))
