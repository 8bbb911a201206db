-- Which nodes stand in an order, and where.
use Rattle.std.proofs.Common.{◌≡◌, ℕ, zero, suc, ◌+◌, ◌<◌, ◌≤◌, Bool, true, false, cond, ◌||◌, eqb, List, [], ◌∷◌, ◌++◌, length, get_or, sym, refl, ap, ◌∙◌, inl, inr, arith}
use Rattle.patch.specs.Placing.{place_in, stands}
use Rattle.std.proofs.Math.Bool.{or-false}
use Rattle.std.proofs.lemmas.List.Recursion.{or_push}
use Rattle.std.proofs.lemmas.Bool.{both_ways, cases_Bool, cases_eq, cond_both, cond-false, cond-true, eq-eqb, eqb-true, false≢true, ne_eqb, or_parts}
use Rattle.std.specs.List.{list_any}

or_second : (a b : Bool) → a ≡ false → (a || b) ≡ true → b ≡ true
or_second true b f h = absurd (both_ways true f refl)
or_second false b f h = h

pub stands_push : (xs : List ℕ) (v w : ℕ) → stands (xs ++ v ∷ []) w ≡ (stands xs w || eqb v w)
stands_push xs v w = or_push (λ xs. stands xs w) (λ x. eqb x w) refl (λ _ _. refl) xs v

pub stands_new : (xs : List ℕ) (v : ℕ) → stands (xs ++ v ∷ []) v ≡ true
stands_new xs v = stands_push xs v v ∙ (ap (λ b. stands xs v || b) (eq-eqb v v refl) ∙ last (stands xs v))
  where
    last : (a : Bool) → (a || true) ≡ true
    last true = refl
    last false = refl

pub stands_other : (xs : List ℕ) (v w : ℕ) → (v ≡ w → ⊥) → stands (xs ++ v ∷ []) w ≡ stands xs w
stands_other xs v w ne = stands_push xs v w ∙ (ap (λ b. stands xs w || b) (ne_eqb v w ne) ∙ or-false (stands xs w))

-- Places.
pub place_inside : (xs : List ℕ) (w : ℕ) → stands xs w ≡ true → place_in xs w < length xs
place_inside [] w h = absurd (false≢true h)
place_inside (x ∷ xs) w h =
    cond_both (eqb x w) 0 (suc (place_in xs w)) (λ k. k < suc (length xs)) (λ _. omega arith)
    (λ f. omega (arith, place_inside xs w (or_second (eqb x w) (stands xs w) f h)))

inside_more : (b : Bool) (k n : ℕ) (P : Bool) → (k < n → P ≡ true) → cond b 0 (suc k) < suc n → (b || P) ≡ true
inside_more true k n P h l = refl
inside_more false k n P h l = h (omega arith)

pub inside_stands : (xs : List ℕ) (w : ℕ) → place_in xs w < length xs → stands xs w ≡ true
inside_stands [] w h = absurd (omega arith)
inside_stands (x ∷ xs) w h = inside_more (eqb x w) (place_in xs w) (length xs) (stands xs w) (inside_stands xs w) h

getD_place : (b : Bool) (x w k : ℕ) (xs : List ℕ) → (b ≡ true → x ≡ w) → (b ≡ false → get_or xs k 0 ≡ w) → get_or (x ∷ xs) (cond b 0 (suc k)) 0 ≡ w
getD_place true x w k xs yes' no' = yes' refl
getD_place false x w k xs yes' no' = no' refl

pub at_place : (xs : List ℕ) (w : ℕ) → stands xs w ≡ true → get_or xs (place_in xs w) 0 ≡ w
at_place [] w h = absurd (false≢true h)
at_place (x ∷ xs) w h =
    getD_place (eqb x w) x w (place_in xs w) xs (eqb-true x w) (λ f. at_place xs w (or_second (eqb x w) (stands xs w) f h))

pub place_old : (xs : List ℕ) (v w : ℕ) → stands xs w ≡ true → place_in (xs ++ v ∷ []) w ≡ place_in xs w
place_old [] v w h = absurd (false≢true h)
place_old (x ∷ xs) v w h = go (eqb x w) h (place_old xs v w)
  where
    go : (b : Bool) → (b || stands xs w) ≡ true → (stands xs w ≡ true → place_in (xs ++ v ∷ []) w ≡ place_in xs w)
        → cond b 0 (suc (place_in (xs ++ v ∷ []) w)) ≡ cond b 0 (suc (place_in xs w))
    go true h more = refl
    go false h more = ap suc (more h)

pub place_new : (xs : List ℕ) (v : ℕ) → stands xs v ≡ false → place_in (xs ++ v ∷ []) v ≡ length xs
place_new [] v h = cond-true (eqb v v) 0 1 (eq-eqb v v refl)
place_new (x ∷ xs) v h =
    let parts = or_parts (eqb x v) (stands xs v) h in
    cond-false (eqb x v) 0 (suc (place_in (xs ++ v ∷ []) v)) parts.0 ∙ ap suc (place_new xs v parts.1)

-- How many numbers below n stand in a list.
abbrev pub standing : List ℕ → ℕ → ℕ
standing xs zero = 0
standing xs (suc n) = cond (stands xs n) 1 0 + standing xs n

one_at_most : (b : Bool) → cond b 1 0 ≤ 1
one_at_most true = omega arith
one_at_most false = omega arith

pub none_standing : (n : ℕ) → standing [] n ≡ 0
none_standing zero = refl
none_standing (suc n) = omega (arith, none_standing n)

pub standing_most : (xs : List ℕ) (n : ℕ) → standing xs n ≤ n
standing_most xs zero = omega arith
standing_most xs (suc n) = omega (arith, standing_most xs n, one_at_most (stands xs n))

-- As many as there are: each of them.
pub standing_all : (xs : List ℕ) (n : ℕ) → n ≤ standing xs n → (v : ℕ) → v < n → stands xs v ≡ true
standing_all xs zero h v l = absurd (omega arith)
standing_all xs (suc n) h v l =
    elim (cases_eq v n) [
      | inl e ↦ ap (stands xs) e ∙ top
      | inr ne ↦ standing_all xs n (omega (arith, one_at_most (stands xs n))) v (omega arith)
    ]
  where
    top : stands xs n ≡ true
    top =
        elim (cases_Bool (stands xs n)) [
          | inl t ↦ t
          | inr f ↦ absurd (omega (arith, standing_most xs n, ap (λ (b : Bool). cond {A = ℕ} b 1 0) f))
        ]

standing_same : (xs : List ℕ) (v n : ℕ) → n ≤ v → standing (xs ++ v ∷ []) n ≡ standing xs n
standing_same xs v zero h = refl
standing_same xs v (suc n) h =
    omega (arith, standing_same xs v n (omega arith), ap (λ (b : Bool). cond {A = ℕ} b 1 0) (stands_other xs v n (λ e. omega arith)))

pub standing_push : (xs : List ℕ) (v n : ℕ) → v < n → stands xs v ≡ false → standing (xs ++ v ∷ []) n ≡ standing xs n + 1
standing_push xs v zero l f = absurd (omega arith)
standing_push xs v (suc n) l f =
    elim (cases_eq v n) [
      | inl e ↦
          omega (
            arith,
            standing_same xs v n (omega arith),
            ap (λ (b : Bool). cond {A = ℕ} b 1 0) (ap (stands (xs ++ v ∷ [])) (sym e) ∙ stands_new xs v),
            ap (λ (b : Bool). cond {A = ℕ} b 1 0) (ap (stands xs) (sym e) ∙ f),
          )
      | inr ne ↦
          omega (arith, standing_push xs v n (omega arith) f, ap (λ (b : Bool). cond {A = ℕ} b 1 0) (stands_other xs v n ne))
    ]

pub all_standing : (xs : List ℕ) (n : ℕ) → ((v : ℕ) → v < n → stands xs v ≡ true) → standing xs n ≡ n
all_standing xs zero h = refl
all_standing xs (suc n) h =
    omega (arith, all_standing xs n (λ v l. h v (omega arith)), ap (λ (b : Bool). cond {A = ℕ} b 1 0) (h n (omega arith)))

-- Some number of a list is v.
pub any_stands : (order : List ℕ) (v : ℕ) → list_any (λ w. eqb w v) order ≡ stands order v
any_stands [] v = refl
any_stands (w ∷ ws) v = ap (λ b. (eqb w v || b)) (any_stands ws v)
