-- Which nodes can follow those of an order.
use Rattle.std.proofs.Common.{◌≡◌, ℕ, ◌<◌, Bool, true, false, not, List, Some, None, Decides, refl, inl, inr}
use Rattle.patch.proofs.Finding.{lowest_none, lowest_some}
use Rattle.patch.specs.Placing.{Follows, can_follow, every, lowest, stands}
use Rattle.session.specs.Plan.{Plan, line, lines_into}
use Rattle.signals.proofs.Lines.{EachInto, all_lines, each_line}
use Rattle.std.proofs.lemmas.Bool.{and_from, and_parts, both_ways, cases_Bool, not_from_false, not-true}
use Rattle.std.proofs.ByRecursion.{Decides-by_and}
use Rattle.std.specs.List.{AllByRecursion}

-- All lines into v start at nodes of the order.
abbrev pub HeardFrom : Plan → List ℕ → ℕ → Type 0
HeardFrom p order v = EachInto p v (λ i. stands order (line p i).start ≡ true)

decides_every : (test : ℕ → Bool) (xs : List ℕ) → Decides (every test xs) (AllByRecursion (λ i. test i ≡ true) xs)
decides_every test xs = Decides-by_and test (λ i. test i ≡ true) (every test) (λ i. ((λ h. h), (λ h. h))) refl (λ _ _. refl) xs

module _ (p : Plan) (order : List ℕ) (v : ℕ) where
  pub follows : stands order v ≡ false → HeardFrom p order v → can_follow p order v ≡ true
  follows f h =
      and_from (not (stands order v)) (every (λ i. stands order (line p i).start) (lines_into p v)) (not_from_false (stands order v) f)
      ((decides_every (λ i. stands order (line p i).start) (lines_into p v)).1 (all_lines p v (λ i. stands order (line p i).start ≡ true) h))

  pub follows_parts : can_follow p order v ≡ true → (stands order v ≡ false) × HeardFrom p order v
  follows_parts h =
      let parts = and_parts (not (stands order v)) (every (λ i. stands order (line p i).start) (lines_into p v)) h in (
        not-true (stands order v) parts.0,
        each_line p v (λ i. stands order (line p i).start ≡ true)
            ((decides_every (λ i. stands order (line p i).start) (lines_into p v)).0 parts.1),
      )

  cannot : (can_follow p order v ≡ true → ⊥) → can_follow p order v ≡ false
  cannot h = elim (cases_Bool (can_follow p order v)) [ inl t ↦ absurd (h t) | inr f ↦ f ]

  pub not_again : stands order v ≡ true → can_follow p order v ≡ false
  not_again t = cannot (λ h. both_ways (stands order v) (follows_parts h).0 t)

  cannot_follow : (Follows p order v → ⊥) → can_follow p order v ≡ false
  cannot_follow h = cannot (λ t. let parts = follows_parts t in h (record { new = parts.0; hears = parts.1 }))

-- The lowest node that can follow, by the fact.
pub next_some : (p : Plan) (order : List ℕ) (n v : ℕ) → (v < n) × Follows p order v × ((w : ℕ) → w < v → Follows p order w → ⊥)
    → lowest (can_follow p order) n ≡ Some v
next_some p order n v h =
    lowest_some (can_follow p order) n v h.0 (follows p order v h.1.new h.1.hears) (λ w l. cannot_follow p order w (h.2 w l))

pub next_none : (p : Plan) (order : List ℕ) (n : ℕ) → ((w : ℕ) → w < n → Follows p order w → ⊥) → lowest (can_follow p order) n ≡ None
next_none p order n h = lowest_none (can_follow p order) n (λ w l. cannot_follow p order w (h w l))
