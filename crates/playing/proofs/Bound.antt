-- A line ends at one node, so the lines into different nodes are no more than the lines.
use Rattle.std.proofs.Common.{◌≡◌, ℕ, zero, suc, ◌+◌, ◌≤◌, cond, eqb, ltb, List, [], ◌∷◌, ◌++◌, length, count_by, sym, refl, ◌∙◌, ap₂, arith, length-append}
use Rattle.session.specs.Plan.{line, lines_into, Plan}
use Rattle.std.proofs.lemmas.List.FromFn.{length-range_with_len}
use Rattle.std.proofs.lemmas.List.Sums.{count_by-le-length, length-filter, sum_by-cons}
use Rattle.std.proofs.lemmas.Bool.Decides.{nat_tests}
use Rattle.std.specs.List.{range_with_len}

-- the numbers of the lines into the first v nodes, node by node
abbrev pub inward_upto : Plan → ℕ → List ℕ
inward_upto p zero = []
inward_upto p (suc v) = inward_upto p v ++ lines_into p v

one_or_none : (e v : ℕ) → cond (ltb e (suc v)) 1 0 ≡ cond (ltb e v) 1 0 + cond (eqb e v) 1 0
one_or_none e v = grind (arith, nat_tests)

count_split : (end : ℕ → ℕ) (v : ℕ) (xs : List ℕ) → count_by (λ i. ltb (end i) (suc v)) xs ≡ count_by (λ i. ltb (end i) v) xs + count_by (λ i. eqb (end i) v) xs
count_split end v [] = refl
count_split end v (x ∷ xs) =
    let a = sum_by-cons (λ i. cond (ltb (end i) (suc v)) 1 0) x xs in
    let b = sum_by-cons (λ i. cond (ltb (end i) v) 1 0) x xs in
    let c = sum_by-cons (λ i. cond (eqb (end i) v) 1 0) x xs in
    let h = count_split end v xs in
    let o = one_or_none (end x) v in
    omega arith

not_below : (e : ℕ) → ◌≡◌ {A = ℕ} (cond (ltb e 0) 1 0) 0
not_below e = grind (arith, nat_tests)

none_below : (end : ℕ → ℕ) (xs : List ℕ) → count_by (λ i. ltb (end i) 0) xs ≡ 0
none_below end [] = refl
none_below end (x ∷ xs) =
    let b = sum_by-cons (λ i. cond (ltb (end i) 0) 1 0) x xs in
    let h = none_below end xs in
    let o = not_below (end x) in
    omega arith

upto_counts : (p : Plan) (v : ℕ) → length (inward_upto p v) ≡ count_by (λ i. ltb (line p i).end v) (range_with_len 0 (length p.lines))
upto_counts p zero = sym (none_below (λ i. (line p i).end) (range_with_len 0 (length p.lines)))
upto_counts p (suc v) =
    length-append (inward_upto p v) (lines_into p v)
    ∙ ap₂ ◌+◌ (upto_counts p v) (length-filter (λ i. eqb (line p i).end v) (range_with_len 0 (length p.lines)))
    ∙ sym (count_split (λ i. (line p i).end) v (range_with_len 0 (length p.lines)))

pub upto_few : (p : Plan) (v : ℕ) → length (inward_upto p v) ≤ length p.lines
upto_few p v =
    let xs = range_with_len 0 (length p.lines) in
    let a = upto_counts p v in
    let b = count_by-le-length (λ i. ltb (line p i).end v) xs in
    let c = length-range_with_len 0 (length p.lines) in
    omega arith
