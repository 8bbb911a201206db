-- Bytes cut at every mark.
use Rattle.std.specs.Prelude.{ℕ, zero, suc, Bool, true, false, cond, ◌&&◌, List, [], ◌∷◌, length, drop, ◌==◌, nat_le}
use Rattle.words.specs.declared.pieces.Pieces.{Pieces}

-- A byte in front of the first piece.
abbrev pub lengthen : ℕ → List (List ℕ) → List (List ℕ)
lengthen b [] = (b ∷ []) ∷ []
lengthen b (p ∷ ps) = (b ∷ p) ∷ ps

-- The pieces between the marks: one more than there are marks.
unfoldable pub split : ℕ → List ℕ → List (List ℕ)
split m [] = [] ∷ []
split m (b ∷ bs) = cond (b == m) ([] ∷ split m bs) (lengthen b (split m bs))

-- How many bytes stand before the first mark.
unfoldable pub upto : ℕ → List ℕ → ℕ
upto m [] = zero
upto m (b ∷ bs) = cond (b == m) zero (suc (upto m bs))

abbrev pub is_nil : {X : Type 0} → List X → Bool
is_nil [] = true
is_nil (x ∷ xs) = false

-- After the last mark there is nothing.
abbrev pub nothing_follows : List (List ℕ) → Bool
nothing_follows [] = false
nothing_follows (p ∷ ps) = is_nil p && is_nil ps

-- The pieces that are still to come.
unfoldable pub pieces : Pieces → List (List ℕ)
pieces p = cond (nat_le p.at (length p.text.bytes.now)) (split p.mark (drop p.at p.text.bytes.now)) []
