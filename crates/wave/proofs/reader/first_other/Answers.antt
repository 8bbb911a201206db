use Rattle.std.proofs.Common.{◌≡◌, ℕ, suc, ◌+◌, ◌≤◌, Bool, true, false, not, cond, eqb, ltb, List, [], ◌∷◌, length, Some, None, Option, sym, refl, ap, ◌∙◌, ap₂, zero-add, arith, rules}
use borrow.Author.Tests.{tests}
use Rattle.std.proofs.lemmas.Bool.{cond-true, lt-ltb, ltb_from_iff, ltb-true}
use Rattle.std.proofs.lemmas.Iterator.{YieldsList-from_slice, YieldsList-from_zip}
use Rattle.std.proofs.lemmas.Iterator.Search.{position_from_yields_List}
use Rattle.std.specs.List.{position_or_len, zip}
use Rattle.wave.proofs.reader.first_other.Goals as goal
use Rattle.wave.specs.Judged.{first_other}

one_more : (b : Bool) (k p n : ℕ) (later : Option ℕ) → later ≡ cond (ltb p n) (Some (k + 1 + p)) None
    → cond b later (Some k) ≡ cond (ltb (cond (not (not b)) (1 + p) 0) (suc n)) (Some (k + cond (not (not b)) (1 + p) 0)) None
one_more true k p n later h =
    let e : k + 1 + p ≡ k + (1 + p) = omega arith in
    let t : ltb p n ≡ ltb (1 + p) (suc n) = ltb_from_iff (λ y. let l = ltb-true p n y in omega arith, λ l. lt-ltb p n (omega arith)) in
    h ∙ ap₂ (λ y m. cond y (Some m) None) t e
one_more false k p n later h = let e : k ≡ k + 0 = omega arith in ap Some e ∙ sym (cond-true (ltb 0 (suc n)) (Some (k + 0)) None (lt-ltb 0 (suc n) (omega arith)))

-- the first other byte is where a pair of the zipped bytes first differs
abbrev differ : ℕ × ℕ → Bool
differ p = not (eqb p.1 p.0)

other_at : (k : ℕ) (xs ys : List ℕ) → length xs ≤ length ys
    → first_other k xs ys ≡ cond (ltb (position_or_len differ (zip xs ys)) (length (zip xs ys))) (Some (k + position_or_len differ (zip xs ys))) None
other_at k [] ys h = refl
other_at k (x ∷ xs) [] h = absurd (omega arith)
other_at k (x ∷ xs) (y ∷ ys) h = one_more (eqb y x) k (position_or_len differ (zip xs ys)) (length (zip xs ys)) (first_other (k + 1) xs ys) (other_at (k + 1) xs ys (omega arith))

pub returns : goal.returns
returns c =
    let xs = c.args.expected.now in
    let ys = c.args.held.now in
    position_from_yields_List differ c.position.new.self _ c.position.result c.position.ensures.ran
    (YieldsList-from_zip (YieldsList-from_slice xs (cc)) (YieldsList-from_slice ys (cc))) (λ x b q k. search (rules, tests))
    ∙ sym (simp zero-add at (other_at 0 xs ys c.requires))
