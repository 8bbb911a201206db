-- The first piece, and those after it.
use Rattle.std.proofs.Common.{◌≡◌, ℕ, zero, suc, ◌+◌, ◌-◌, ◌<◌, ◌≤◌, Bool, true, false, cond, eqb, ltb, leb, List, [], ◌∷◌, length, take, drop, sym, refl, ap, ◌∙◌, ap₂, ⊎_elim, Some, None, Option, arith}
use Rattle.std.proofs.lemmas.List.{drop_all, drop-drop, length-drop, length-take-le}
use Rattle.std.proofs.lemmas.Bool.{cases_eq, cases_lt, cond-false, cond-true, eq-eqb, le-leb, le-ltb, lt-leb, lt-ltb, ne_eqb}
use Rattle.std.proofs.lemmas.Bool.Decides.{nat_tests}
use Rattle.std.proofs.lemmas.Option.{none-some}
use Rattle.std.specs.Option.{MatchOption, option_map}
use Rattle.words.specs.declared.pieces.Pieces.{Pieces}
use Rattle.words.specs.declared.shorts.Short.{Short}
use Rattle.words.specs.Pieces.{is_nil, lengthen, nothing_follows, pieces, split, upto}

shifted : (n l : ℕ) → ltb n l ≡ ltb (suc n) (suc l)
shifted n l = grind (arith, nat_tests)

-- what stands after the first mark
abbrev pub later : ℕ → List ℕ → ℕ → List (List ℕ)
later m xs n = cond (ltb n (length xs)) (split m (drop (suc n) xs)) []

pub split_first : (m : ℕ) (xs : List ℕ) → split m xs ≡ take (upto m xs) xs ∷ later m xs (upto m xs)
unfolding split upto
split_first m [] = refl
split_first m (x ∷ xs) = go (eqb x m) (split_first m xs)
  where
    go : (b : Bool) → split m xs ≡ take (upto m xs) xs ∷ later m xs (upto m xs)
        → cond b ([] ∷ split m xs) (lengthen x (split m xs)) ≡ take (cond b zero (suc (upto m xs))) (x ∷ xs) ∷ later m (x ∷ xs) (cond b zero (suc (upto m xs)))
    go true h = ap (λ l. [] ∷ l) (sym (cond-true _ _ _ (lt-ltb 0 (suc (length xs)) (omega arith))))
    go false h = ap (lengthen x) h ∙ ap (λ b. (x ∷ take (upto m xs) xs) ∷ cond b (split m (drop (suc (upto m xs)) xs)) []) (shifted (upto m xs) (length xs))

-- the first piece from `a` on
pub cut_at : (m : ℕ) (xs : List ℕ) (a : ℕ) → a ≤ length xs
    → split m (drop a xs) ≡ take (upto m (drop a xs)) (drop a xs) ∷ cond (leb (a + upto m (drop a xs) + 1) (length xs)) (split m (drop (a + upto m (drop a xs) + 1) xs)) []
cut_at m xs a h =
    let u = upto m (drop a xs) in
    let e : a + suc u ≡ a + u + 1 = omega arith in
    let t : ltb u (length xs - a) ≡ leb (a + u + 1) (length xs) = grind (arith, nat_tests) in
    split_first m (drop a xs)
    ∙ ap₂ (λ b l. take u (drop a xs) ∷ cond b (split m l) []) (ap (ltb u) (length-drop a xs) ∙ t) (drop-drop (suc u) a xs ∙ ap (λ k. drop k xs) e)

pub pieces_none : (p : Pieces) → length p.text.bytes.now < p.at → pieces p ≡ []
unfolding pieces
pieces_none p h = cond-false _ _ _ (lt-leb p.at (length p.text.bytes.now) h)

pub pieces_some : (p : Pieces) → p.at ≤ length p.text.bytes.now → pieces p ≡ split p.mark (drop p.at p.text.bytes.now)
unfolding pieces
pieces_some p h = cond-true _ _ _ (le-leb p.at (length p.text.bytes.now) h)

-- one piece cut off
pieces_step : (p q : Pieces) (u : ℕ) → q.text.bytes.now ≡ p.text.bytes.now → q.mark ≡ p.mark → p.at ≤ length p.text.bytes.now
    → u ≡ upto p.mark (drop p.at p.text.bytes.now) → q.at ≡ p.at + u + 1
    → pieces p ≡ take u (drop p.at p.text.bytes.now) ∷ pieces q
unfolding pieces
pieces_step p q u eb em h eu eq =
    let xs = p.text.bytes.now in
    let a : p.at + upto p.mark (drop p.at xs) + 1 ≡ q.at = omega arith in
    pieces_some p h ∙ cut_at p.mark xs p.at h
    ∙ ap₂ (λ k l. take k (drop p.at xs) ∷ l) (sym eu)
    (ap (λ j. cond (leb j (length xs)) (split p.mark (drop j xs)) []) a ∙ ap₂ (λ m l. cond (leb q.at (length l)) (split m (drop q.at l)) []) (sym em) (sym eb))

-- that piece as it is handed out
pub next_cut : (p q : Pieces) (r : Option Short) (rest : List ℕ) (u : ℕ) → q.text.bytes.now ≡ p.text.bytes.now → q.mark ≡ p.mark → p.at ≤ length p.text.bytes.now
    → rest ≡ drop p.at p.text.bytes.now → u ≡ upto p.mark rest → u ≤ length rest → q.at ≡ p.at + length (take u rest) + 1
    → option_map (λ s. s.bytes.now) r ≡ Some (take u rest)
    → MatchOption r (pieces p ≡ []) (λ s. (pieces p ≡ s.bytes.now ∷ pieces q) × (q.at ≡ p.at + length s.bytes.now + 1))
next_cut p q None rest u eb em h er eu l eq e = absurd (none-some _ e)
next_cut p q (Some s) rest u eb em h er eu l eq e =
    let n : length (take u rest) ≡ u = length-take-le u rest l in
    let same : s.bytes.now ≡ take u rest = cc in
    (pieces_step p q u eb em h (eu ∙ ap (upto p.mark) er) (omega arith) ∙ ap (λ x. x ∷ pieces q) (sym (same ∙ ap (take u) er)), eq ∙ ap (λ x. p.at + length x + 1) (sym same))

pub pieces_done : (p : Pieces) → ltb (length p.text.bytes.now) p.at ≡ is_nil (pieces p)
pieces_done p =
    ⊎_elim (λ l. lt-ltb (length p.text.bytes.now) p.at l ∙ sym (ap is_nil (pieces_none p l)))
    (λ g. le-ltb (length p.text.bytes.now) p.at g ∙ sym (ap is_nil (pieces_some p g ∙ split_first p.mark (drop p.at p.text.bytes.now))))
    (cases_lt (length p.text.bytes.now) p.at)

-- some bytes are more than one empty piece
some_follow : (m x : ℕ) (xs : List ℕ) → nothing_follows (split m (x ∷ xs)) ≡ false
unfolding split
some_follow m x xs = go (eqb x m) (split m xs) (split_first m xs)
  where
    go : (b : Bool) (ps : List (List ℕ)) → ps ≡ take (upto m xs) xs ∷ later m xs (upto m xs) → nothing_follows (cond b ([] ∷ ps) (lengthen x ps)) ≡ false
    go true ps e = ap is_nil e
    go false [] e = refl
    go false (p ∷ ps) e = refl

rest_follows : (m : ℕ) (xs : List ℕ) → 0 < length xs → nothing_follows (split m xs) ≡ false
rest_follows m [] h = absurd (omega arith)
rest_follows m (x ∷ xs) h = some_follow m x xs

pub pieces_spent : (p : Pieces) → eqb p.at (length p.text.bytes.now) ≡ nothing_follows (pieces p)
unfolding split
pieces_spent p =
    ⊎_elim (λ l. ne_eqb p.at (length p.text.bytes.now) (λ e. omega arith) ∙ sym (ap nothing_follows (pieces_none p l)))
    (λ g. ⊎_elim (λ e. eq-eqb p.at (length p.text.bytes.now) e ∙ sym (ap nothing_follows (pieces_some p g ∙ ap (split p.mark) (drop_all p.at p.text.bytes.now (omega arith)))))
    (λ n. ne_eqb p.at (length p.text.bytes.now) n ∙ sym (ap nothing_follows (pieces_some p g) ∙ rest_follows p.mark (drop p.at p.text.bytes.now) (rw (length-drop p.at p.text.bytes.now) (omega arith))))
    (cases_eq p.at (length p.text.bytes.now)))
    (cases_lt (length p.text.bytes.now) p.at)
