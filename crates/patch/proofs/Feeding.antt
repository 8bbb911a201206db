-- The feeder sweep gives the nodes from which a chain of lines leads.
use Rattle.std.proofs.Common.{◌≡◌, ℕ, ◌+◌, ◌-◌, ◌*◌, ◌/◌, ◌%◌, ◌^◌, ◌<◌, max, true, false, ◌||◌, eqb, List, [], ◌∷◌, map, length, Decides, sym, ap, ◌∙◌, subst, inl, inr, arith}
use lib.Bits.{bit_or, or_step}
use Rattle.patch.specs.Chains.{Chain}
use Rattle.patch.specs.Chains.Chain.{here, along}
use Rattle.patch.specs.Flows.{feeders_kind, in_set}
use Rattle.patch.specs.Sweeps.{Swept, joined, joined_on}
use Rattle.session.specs.Plan.{KeepsRules, Plan, line, lines_into}
use Rattle.signals.proofs.Lines.{all_lines, each_line}
use Rattle.signals.proofs.Order.{from_starts}
use Rattle.signals.specs.Patches.{Ordered}
use Rattle.std.proofs.lemmas.Nat.{div_below, or_shr, pow-add, pow_below, pow_pos, shl-shr}
use Rattle.std.proofs.lemmas.Bool.{both_ways, cases_eq, cases_lt, or_cases, or_left, or_right}
use Rattle.std.proofs.lemmas.Bool.Decides.{nat_tests}
use Rattle.std.specs.List.{AllByRecursion}

-- Bits.
or_bit : (x y : ℕ) → bit_or x y % 2 ≡ max (x % 2) (y % 2)
or_bit x y = omega (arith, or_step x y)

either_bit : (x y : ℕ) → eqb (max (x % 2) (y % 2)) 1 ≡ (eqb (x % 2) 1 || eqb (y % 2) 1)
either_bit x y = grind (arith, nat_tests)

in_or : (a b w : ℕ) → in_set (bit_or a b) w ≡ (in_set a w || in_set b w)
in_or a b w =
    ap (λ n. eqb (n % 2) 1) (or_shr a b w) ∙ (ap (λ n. eqb n 1) (or_bit (a / 2 ^ w) (b / 2 ^ w)) ∙ either_bit (a / 2 ^ w) (b / 2 ^ w))

in_itself : (v : ℕ) → in_set (2 ^ v) v ≡ true
in_itself v =
    let once : 2 ^ v ≡ 1 * 2 ^ v = omega arith in
    ap (λ n. eqb (n % 2) 1) (ap (λ n. n / 2 ^ v) once ∙ shl-shr 1 v)

in_small : (n w : ℕ) → n < 2 ^ w → in_set n w ≡ false
in_small n w h =
    let none : n / 2 ^ w ≡ 0 = omega (arith, div_below n (2 ^ w) 1 (pow_pos w) (omega arith)) in
    ap (λ m. eqb (m % 2) 1) none

in_other : (v w : ℕ) → (v ≡ w → ⊥) → in_set (2 ^ v) w ≡ false
in_other v w ne =
    elim (cases_lt v w) [
      | inl h ↦ in_small (2 ^ v) w (pow_below v w h)
      | inr h ↦
          let k : ℕ = v - w - 1 in
          let split : v ≡ (k + 1) + w = omega arith in
          let shifted : 2 ^ v / 2 ^ w ≡ 2 ^ (k + 1) = ap (λ n. 2 ^ n / 2 ^ w) split ∙ (ap (λ n. n / 2 ^ w) (pow-add 2 (k + 1) w) ∙ shl-shr (2 ^ (k + 1)) w) in
          let even : 2 ^ v / 2 ^ w % 2 ≡ 0 = omega (arith, shifted, pow-add 2 k 1) in
          ap (λ n. eqb n 1) even
    ]

-- Joined sets have the nodes of each of them, and no other.
joined_first : (w x : ℕ) (f : ℕ → ℕ) (is : List ℕ) → in_set x w ≡ true → in_set (joined_on bit_or x (map f is)) w ≡ true
joined_first w x f [] t = t
joined_first w x f (i ∷ is) t = joined_first w (bit_or x (f i)) f is (in_or x (f i) w ∙ or_left (in_set x w) (in_set (f i) w) t)

joined_each : (w x : ℕ) (f : ℕ → ℕ) (is : List ℕ) → AllByRecursion (λ i. in_set (f i) w ≡ true → in_set (joined_on bit_or x (map f is)) w ≡ true) is
joined_each w x f [] = tt
joined_each w x f (i ∷ is) = (
  (λ t. joined_first w (bit_or x (f i)) f is (in_or x (f i) w ∙ or_right (in_set x w) (in_set (f i) w) t)),
  joined_each w (bit_or x (f i)) f is,
)

joined_only : (Q : Type 0) (w x : ℕ) (f : ℕ → ℕ) (is : List ℕ) → in_set (joined_on bit_or x (map f is)) w ≡ true → (in_set x w ≡ true → Q)
    → AllByRecursion (λ i. in_set (f i) w ≡ true → Q) is → Q
joined_only Q w x f [] t first all = first t
joined_only Q w x f (i ∷ is) t first all =
    joined_only Q w (bit_or x (f i)) f is t
    (λ u. elim (or_cases (in_set x w) (in_set (f i) w) (sym (in_or x (f i) w) ∙ u)) [ inl a ↦ first a | inr b ↦ all.0 b ]) all.1

sets_each : (w : ℕ) (f : ℕ → ℕ) (is : List ℕ) → AllByRecursion (λ i. in_set (f i) w ≡ true → in_set (joined feeders_kind (map f is)) w ≡ true) is
sets_each w f [] = tt
sets_each w f (i ∷ is) = (joined_first w (f i) f is, joined_each w (f i) f is)

sets_only : (Q : Type 0) (w : ℕ) (f : ℕ → ℕ) (is : List ℕ) → in_set (joined feeders_kind (map f is)) w ≡ true
    → AllByRecursion (λ i. in_set (f i) w ≡ true → Q) is → Q
sets_only Q w f [] t all = absurd (both_ways (in_set 0 w) (in_small 0 w (pow_pos w)) t)
sets_only Q w f (i ∷ is) t all = joined_only Q w (f i) f is t all.0 all.1

module _ (p : Plan) (place fed : ℕ → ℕ) (rules : KeepsRules p) (order : Ordered p place) (swept : Swept feeders_kind p fed) where
  heard : ℕ → ℕ
  heard v = joined feeders_kind (map (λ i. fed (line p i).start) (lines_into p v))

  -- A node's set has what it hears and itself.
  either : (v w : ℕ) → v < length p.nodes → in_set (fed v) w ≡ (in_set (heard v) w || in_set (2 ^ v) w)
  unfolding heard
  either v w l = ap (λ s. in_set s w) (swept v l) ∙ in_or (heard v) (2 ^ v) w

  itself : (v w : ℕ) → in_set (2 ^ v) w ≡ true → Chain p w v
  itself v w t =
      elim (cases_eq v w) [
        | inl e ↦ subst (λ u. Chain p u v) e here
        | inr ne ↦ absurd (both_ways (in_set (2 ^ v) w) (in_other v w ne) t)
      ]

  chain_from : (v : ℕ) → v < length p.nodes → (w : ℕ) → in_set (fed v) w ≡ true → Chain p w v
  unfolding heard
  chain_from =
      from_starts p place rules order (λ v. (w : ℕ) → in_set (fed v) w ≡ true → Chain p w v) (λ v l before w t.
      elim (or_cases (in_set (heard v) w) (in_set (2 ^ v) w) (sym (either v w l) ∙ t)) [
        | inl a ↦
            sets_only (Chain p w v) w (λ i. fed (line p i).start) (lines_into p v) a
            (all_lines p v (λ i. in_set (fed (line p i).start) w ≡ true → Chain p w v) (λ i b e u. along i b e (before i b e w u)))
        | inr b ↦ itself v w b
      ])

  chain_to : (w : ℕ) {v : ℕ} → v < length p.nodes → Chain p w v → in_set (fed v) w ≡ true
  unfolding heard
  chain_to w l here = either w w l ∙ or_right (in_set (heard w) w) (in_set (2 ^ w) w) (in_itself w)
  chain_to w l (along {v} i b e chain) =
      either v w l
      ∙ or_left (in_set (heard v) w) (in_set (2 ^ v) w)
      (each_line p v (λ i. in_set (fed (line p i).start) w ≡ true → in_set (heard v) w ≡ true)
      (sets_each w (λ i. fed (line p i).start) (lines_into p v)) i b e (chain_to w (rules.starts i b) chain))

  pub feeders_are_chains : (v w : ℕ) → v < length p.nodes → Decides (in_set (fed v) w) (Chain p w v)
  feeders_are_chains v w l = (chain_from v l w, chain_to w l)
