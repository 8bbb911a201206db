-- The lines into a node, and what is greatest, the same or nothing over them.
use Rattle.std.proofs.Common.{◌≡◌, ℕ, zero, suc, ◌+◌, ◌<◌, ◌≤◌, max, Bool, true, eqb, List, [], ◌∷◌, map, length, filter, sym, refl, ap, ◌∙◌, subst, ap₂, inl, inr, arith}
use Rattle.session.specs.Plan.{Plan, line, lines_into}
use Rattle.std.proofs.ByRecursion.{All-weaker}
use Rattle.std.proofs.lemmas.Bool.{both_ways, cases_eq, cond_both, eq-eqb, eqb-true}
use Rattle.std.specs.List.{range_with_len, AllByRecursion}
use Rattle.voices.specs.Kinds.{greatest}

kept_all : (test : ℕ → Bool) (P : ℕ → Type 0) (a n : ℕ) → ((i : ℕ) → i < a + n → test i ≡ true → P i) → AllByRecursion P (filter test (range_with_len a n))
kept_all test P a zero h = tt
kept_all test P a (suc n) h =
    let rest = kept_all test P (a + 1) n (λ i l. h i (omega arith)) in
    cond_both (test a) (a ∷ filter test (range_with_len (a + 1) n)) (filter test (range_with_len (a + 1) n)) (AllByRecursion P)
    (λ e. (h a (omega arith) e, rest)) (λ _. rest)

all_kept : (test : ℕ → Bool) (P : ℕ → Type 0) (i : ℕ) → test i ≡ true → (a n : ℕ) → a ≤ i → i < a + n → AllByRecursion P (filter test (range_with_len a n)) → P i
all_kept test P i t a zero h l = absurd (omega arith)
all_kept test P i t a (suc n) h l =
    let rest : (a ≡ i → ⊥) → AllByRecursion P (filter test (range_with_len (a + 1) n)) → P i = λ ne. all_kept test P i t (a + 1) n (omega arith) (omega arith) in
    cond_both (test a) (a ∷ filter test (range_with_len (a + 1) n)) (filter test (range_with_len (a + 1) n)) (λ xs. AllByRecursion P xs → P i)
    (λ _ all. elim (cases_eq a i) [ inl e ↦ subst P e all.0 | inr ne ↦ rest ne all.1 ])
    (λ f all. elim (cases_eq a i) [ inl e ↦ absurd (both_ways (test i) (ap test (sym e) ∙ f) t) | inr ne ↦ rest ne all ])

-- What holds of each line that ends at v.
abbrev pub EachInto : Plan → ℕ → (ℕ → Type 0) → Type 0
EachInto p v P = (i : ℕ) → i < length p.lines → (line p i).end ≡ v → P i

-- It holds of all lines into v, and the other way round.
pub all_lines : (p : Plan) (v : ℕ) (P : ℕ → Type 0) → EachInto p v P → AllByRecursion P (lines_into p v)
all_lines p v P h = kept_all (λ i. eqb (line p i).end v) P 0 (length p.lines) (λ i l t. h i (omega arith) (eqb-true (line p i).end v t))

pub each_line : (p : Plan) (v : ℕ) (P : ℕ → Type 0) → AllByRecursion P (lines_into p v) → EachInto p v P
each_line p v P all i l e =
    all_kept (λ i. eqb (line p i).end v) P i (eq-eqb (line p i).end v e) 0 (length p.lines) (omega arith) (omega arith) all

pub none_of : {X : Type 0} (xs : List X) → AllByRecursion (λ _. ⊥) xs → xs ≡ []
none_of [] h = refl
none_of (x ∷ xs) h = absurd h.0

pub map_same : {X Y : Type 0} (f g : X → Y) (xs : List X) → AllByRecursion (λ x. f x ≡ g x) xs → map f xs ≡ map g xs
map_same f g [] h = refl
map_same f g (x ∷ xs) h = ap₂ ◌∷◌ h.0 (map_same f g xs h.1)

pub greatest_same : {X : Type 0} (f g : X → ℕ) (xs : List X) → AllByRecursion (λ x. f x ≡ g x) xs → greatest f xs ≡ greatest g xs
greatest_same f g [] h = refl
greatest_same f g (x ∷ xs) h = ap₂ max h.0 (greatest_same f g xs h.1)

pub at_most_greatest : {X : Type 0} (f : X → ℕ) (xs : List X) → AllByRecursion (λ x. f x ≤ greatest f xs) xs
at_most_greatest f [] = tt
at_most_greatest f (x ∷ xs) =
    (omega arith, All-weaker (λ y. f y ≤ greatest f xs) (λ y. f y ≤ max (f x) (greatest f xs)) (λ y h. omega arith) xs (at_most_greatest f xs))

pub greatest_at_most : {X : Type 0} (f : X → ℕ) (k : ℕ) (xs : List X) → AllByRecursion (λ x. f x ≤ k) xs → greatest f xs ≤ k
greatest_at_most f k [] h = omega arith
greatest_at_most f k (x ∷ xs) h = omega (arith, greatest_at_most f k xs h.1)

-- Either no line ends at v, or some line does.
pub with_lines : (p : Plan) (v : ℕ) (P : Type 0) → (lines_into p v ≡ [] → P) → EachInto p v (λ _. P) → P
with_lines p v P none some = go (lines_into p v) refl (all_lines p v (λ i. (i < length p.lines) × ((line p i).end ≡ v)) (λ i b e. (b, e)))
  where
    go : (xs : List ℕ) → lines_into p v ≡ xs → AllByRecursion (λ i. (i < length p.lines) × ((line p i).end ≡ v)) xs → P
    go [] e h = none e
    go (i ∷ xs) e h = some i h.0.0 h.0.1
