use Rattle.std.proofs.Common.{◌≡◌, ℕ, zero, suc, ◌+◌, Bool, true, false, cond, eqb, List, [], ◌∷◌, take, drop, refl, ap, ◌∙◌, arith, rules}
use borrow.Author.Tests.{tests}
use Rattle.listing.proofs.hex.zeros.Goals as goal
use Rattle.listing.specs.Hex.{without_zeros}
use Rattle.std.proofs.lemmas.Iterator.{YieldsList-from_slice}
use Rattle.std.proofs.lemmas.Iterator.Consumers.{YieldsList-at, count_from_yields_List}
use Rattle.std.proofs.lemmas.Iterator.Search.{YieldsList-from_take_while}
use Rattle.std.proofs.lemmas.List.Folds.{length-prefix_len}
use Rattle.std.specs.List.{prefix_len}

-- what is left after the zeros in front
one_more : (b : Bool) (n d : ℕ) (ds left : List ℕ) → drop n ds ≡ left → drop (cond b (1 + n) 0) (d ∷ ds) ≡ cond b left (d ∷ ds)
one_more true n d ds left h = let s : 1 + n ≡ suc n = omega arith in ap (λ m. drop m (d ∷ ds)) s ∙ h
one_more false n d ds left h = refl

skipped : (most : ℕ) (ds : List ℕ) → drop (prefix_len (λ d. eqb d 48) (take most ds)) ds ≡ without_zeros most ds
skipped zero ds = refl
skipped (suc most) [] = refl
skipped (suc most) (d ∷ ds) = one_more (eqb d 48) (prefix_len (λ d. eqb d 48) (take most ds)) d ds (without_zeros most ds) (skipped most ds)

pub returns-clause-rest : goal.returns-clause-rest
returns-clause-rest c =
    let ds = c.args.digits.now in
    let front = YieldsList-at c.take_while.ensures.source (YieldsList-from_slice (take 4 ds) (cc)) in
    let most = count_from_yields_List c.take_while.result c.count.result c.count.ensures.ran
    (YieldsList-from_take_while _ (λ d. eqb d 48) front c.take_while.ensures.closure c.take_while.ensures.done (λ x b q k. search (rules, tests))) in
    ap (λ k. drop k ds) (most ∙ length-prefix_len (λ d. eqb d 48) (take 4 ds)) ∙ skipped 4 ds
