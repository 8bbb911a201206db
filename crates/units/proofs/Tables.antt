-- A table of weights keeps its rule at each entry if a test passes over the whole table.
use Rattle.std.proofs.Common.{◌≡◌, ℕ, zero, suc, ◌+◌, ◌-◌, ◌*◌, ◌<◌, ◌≤◌, Bool, true, false, ◌&&◌, T, ltb, leb, List, [], ◌∷◌, length, get_or, refl, subst, arith}
use Rattle.std.proofs.lemmas.Bool.{and_parts, leb-true, ltb-true}
use Rattle.voices.proofs.Weights.{not_above, weighs_by, weight_is}
use Rattle.voices.specs.Kinds.{weight, Weighs}

-- the square of the entry at k fits, and that of the next number does not
abbrev pub fits_at : ℕ → ℕ → Bool
fits_at k a = leb (a * a) (1048576 * (256 - k)) && ltb (1048576 * (256 - k)) ((a + 1) * (a + 1))

-- the test passes at each entry, whose places are counted from k
abbrev pub all_fit : ℕ → List ℕ → Bool
all_fit k [] = true
all_fit k (a ∷ ws) = fits_at k a && all_fit (suc k) ws

weighs_if : (k a : ℕ) → fits_at k a ≡ true → Weighs k a
weighs_if k a e = let both = and_parts _ _ e in weighs_by k a (leb-true _ _ both.0) (ltb-true _ _ both.1)

entry_from : (ws : List ℕ) (k : ℕ) → all_fit k ws ≡ true → (i : ℕ) → i < length ws → Weighs (k + i) (get_or ws i 0)
entry_from [] k e i h = absurd (omega arith)
entry_from (a ∷ ws) k e zero h = let n : k ≡ k + 0 = omega arith in subst (λ j. Weighs j a) n (weighs_if k a (and_parts _ _ e).0)
entry_from (a ∷ ws) k e (suc i) h =
    let n : suc k + i ≡ k + suc i = omega arith in
    subst (λ j. Weighs j (get_or ws i 0)) n (entry_from ws (suc k) (and_parts _ _ e).1 i (omega arith))

all_true : (b : Bool) → T b → b ≡ true
all_true true t = refl
all_true false t = absurd t

pub entry : (ws : List ℕ) → T (all_fit 0 ws) → (i : ℕ) → i < length ws → Weighs i (get_or ws i 0)
entry ws t i h = let n : 0 + i ≡ i = omega arith in subst (λ j. Weighs j (get_or ws i 0)) n (entry_from ws 0 (all_true _ t) i h)

pub entry_value : (ws : List ℕ) → T (all_fit 0 ws) → (i : ℕ) → i < length ws → get_or ws i 0 ≡ weight i
entry_value ws t i h = weight_is i (get_or ws i 0) (entry ws t i h)

pub entry_bound : (ws : List ℕ) → T (all_fit 0 ws) → (i : ℕ) → i < length ws → get_or ws i 0 ≤ 16384
entry_bound ws t i h = not_above (1048576 * (256 - i)) (get_or ws i 0) (omega arith) (entry ws t i h).0
