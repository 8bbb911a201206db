-- The bytes that a line may have.
use Rattle.std.specs.Prelude.{ℕ, zero, suc, Bool, cond, ◌&&◌, ◌||◌, List, [], ◌∷◌, ◌==◌, nat_le}
use Rattle.std.specs.List.{list_all}

abbrev pub is_letter : ℕ → Bool
is_letter b = nat_le 97 b && nat_le b 122

abbrev pub is_digit : ℕ → Bool
is_digit b = nat_le 48 b && nat_le b 57

-- A letter a to z, a digit, a hyphen or a space.
abbrev pub is_known : ℕ → Bool
is_known b = is_letter b || (is_digit b || (b == 45 || b == 32))

-- How many bytes stand before the first that is not known.
unfoldable pub known_run : List ℕ → ℕ
known_run [] = zero
known_run (b ∷ bs) = cond (is_known b) (suc (known_run bs)) zero

unfoldable pub all_letters : List ℕ → Bool
all_letters bs = list_all is_letter bs

unfoldable pub all_digits : List ℕ → Bool
all_digits bs = list_all is_digit bs
