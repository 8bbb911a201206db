-- Pieces put together with marks between, and cut again.
use Rattle.std.proofs.Common.{◌≡◌, ℕ, Bool, true, false, cond, eqb, List, [], ◌∷◌, ◌++◌, map, sym, refl, ap, ◌∙◌, ap₂, append_assoc, arith}
use Rattle.std.proofs.lemmas.Bool.{cond-false, cond-true, eq-eqb, eqb-true}
use Rattle.std.proofs.lemmas.List.{append-nil}
use Rattle.std.specs.List.{flat_map, AllByRecursion}
use Rattle.text.proofs.Grammar.{nil_not}
use Rattle.text.specs.Scripts.{line_bytes, spaced, spelt_line}
use Rattle.words.specs.Pieces.{lengthen, split}

-- each piece after a mark
unfoldable pub marked : ℕ → List (List ℕ) → List ℕ
marked m [] = []
marked m (p ∷ ps) = m ∷ (p ++ marked m ps)

-- marks between
abbrev pub join : ℕ → List (List ℕ) → List ℕ
join m [] = []
join m (p ∷ ps) = p ++ marked m ps

-- no mark
abbrev pub Free : ℕ → List ℕ → Type 0
Free m = AllByRecursion (λ b. eqb b m ≡ false)

pub spaced_marked : (ws : List (List ℕ)) → spaced ws ≡ marked 32 ws
unfolding spaced marked
spaced_marked [] = refl
spaced_marked (w ∷ ws) = ap (λ l. 32 ∷ (w ++ l)) (spaced_marked ws)

pub line_join : (ws : List (List ℕ)) → line_bytes ws ≡ join 32 ws
line_join [] = refl
line_join (w ∷ ws) = ap (λ l. w ++ l) (spaced_marked ws)

pub join_split : (m : ℕ) (xs : List ℕ) → join m (split m xs) ≡ xs
unfolding split marked
join_split m [] = refl
join_split m (x ∷ xs) = go (eqb x m) refl (split m xs) refl (join_split m xs)
  where
    some : (m x : ℕ) (xs : List ℕ) (b : Bool) → cond b ([] ∷ split m xs) (lengthen x (split m xs)) ≡ [] → ⊥
    some m x xs true e = nil_not (sym e)
    some m x xs false e = some_lengthen (split m xs) e
      where
        some_lengthen : (ps : List (List ℕ)) → lengthen x ps ≡ [] → ⊥
        some_lengthen [] e = nil_not (sym e)
        some_lengthen (p ∷ ps) e = nil_not (sym e)

    never : (xs : List ℕ) → split m xs ≡ [] → ⊥
    never [] e = nil_not (sym e)
    never (y ∷ ys) e = some m y ys (eqb y m) e

    go : (b : Bool) → eqb x m ≡ b → (ps : List (List ℕ)) → split m xs ≡ ps → join m ps ≡ xs → join m (cond b ([] ∷ ps) (lengthen x ps)) ≡ x ∷ xs
    go b e [] n h = absurd (never xs n)
    go true e (p ∷ ps) n h = ap₂ ◌∷◌ (sym (eqb-true x m e)) h
    go false e (p ∷ ps) n h = ap (λ l. x ∷ l) h

-- bytes in front of the first piece
abbrev pub prepend : List ℕ → List (List ℕ) → List (List ℕ)
prepend p [] = p ∷ []
prepend p (q ∷ qs) = (p ++ q) ∷ qs

pub split_front : (m : ℕ) (p rest : List ℕ) → Free m p → split m (p ++ rest) ≡ prepend p (split m rest)
unfolding split
split_front m [] rest f = same (split m rest) (some rest)
  where
    first : List (List ℕ) → Bool
    first [] = false
    first (p ∷ ps) = true

    some : (rest : List ℕ) → first (split m rest) ≡ true
    some [] = refl
    some (y ∷ ys) = go (eqb y m) (split m ys)
      where
        go : (b : Bool) (ps : List (List ℕ)) → first (cond b ([] ∷ ps) (lengthen y ps)) ≡ true
        go true ps = refl
        go false [] = refl
        go false (p ∷ ps) = refl

    same : (ps : List (List ℕ)) → first ps ≡ true → ps ≡ prepend [] ps
    same [] e = let z : ◌≡◌ {A = ℕ} 0 1 = cc in absurd (omega arith)
    same (p ∷ ps) e = refl
split_front m (b ∷ p) rest f = cond-false (eqb b m) _ _ f.0 ∙ ap (lengthen b) (split_front m p rest f.1) ∙ longer (split m rest)
  where
    longer : (ps : List (List ℕ)) → lengthen b (prepend p ps) ≡ prepend (b ∷ p) ps
    longer [] = refl
    longer (q ∷ qs) = refl

pub split_join : (m : ℕ) (ps : List (List ℕ)) (p : List ℕ) → Free m p → AllByRecursion (Free m) ps → split m (p ++ marked m ps) ≡ p ∷ ps
unfolding split marked
split_join m [] p f fs = split_front m p [] f ∙ ap (λ l. l ∷ []) (append-nil p)
split_join m (q ∷ qs) p f fs =
    split_front m p (m ∷ (q ++ marked m qs)) f ∙ ap (prepend p) (cond-true (eqb m m) _ _ (eq-eqb m m refl) ∙ ap (λ l. [] ∷ l) (split_join m qs q fs.0 fs.1)) ∙ ap (λ l. l ∷ q ∷ qs) (append-nil p)

-- lines, each ended by 0A, are pieces between 0A, with nothing after the last
pub lines_join : (ls : List (List (List ℕ))) → flat_map spelt_line ls ≡ join 10 (map line_bytes ls ++ ([] ∷ []))
unfolding marked
lines_join [] = refl
lines_join (l ∷ ls) = append_assoc (line_bytes l) (10 ∷ []) (flat_map spelt_line ls) ∙ ap (λ r. line_bytes l ++ 10 ∷ r) (lines_join ls) ∙ ap (λ r. line_bytes l ++ r) (go (map line_bytes ls))
  where
    go : (ps : List (List ℕ)) → 10 ∷ join 10 (ps ++ ([] ∷ [])) ≡ marked 10 (ps ++ ([] ∷ []))
    go [] = refl
    go (p ∷ ps) = refl
