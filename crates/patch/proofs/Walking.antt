-- Walks along numbers each of which names the next.
use Rattle.std.proofs.Common.{◌≡◌, ℕ, zero, suc, ◌-◌, ◌<◌, ◌≤◌, List, [], ◌∷◌, Some, None, Option, sym, refl, ap, subst, arith}
use Rattle.patch.specs.Inputs.{Arranges, Links, first_into, next_after}
use Rattle.patch.specs.Placing.{plan_of}
use Rattle.patch.specs.Walks.{walk}
use Rattle.patch.specs.declared.inputs.Inputs.{Inputs}
use Rattle.session.specs.Plan.{lines_into}
use Rattle.session.specs.declared.nodes.Line.{Line}

-- How many numbers there are from one on, at most.
abbrev pub most_from : Option ℕ → ℕ
most_from None = 0
most_from (Some i) = suc (48 - i)

most : (at : Option ℕ) → most_from at ≤ 49
most None = omega arith
most (Some i) = omega arith

module _ (next : ℕ → Option ℕ) (rises : (i j : ℕ) → next i ≡ Some j → (i < j) × (j < 48)) where
  falls : (i n : ℕ) → 48 - i ≤ n → most_from (next i) ≤ n
  falls i n h = go (next i) refl
    where
      go : (at : Option ℕ) → next i ≡ at → most_from at ≤ n
      go None e = omega arith
      go (Some j) e = omega (arith, rises i j e)

  enough : (n : ℕ) (at : Option ℕ) → most_from at ≤ n → walk next n at ≡ walk next (suc n) at
  enough zero None h = refl
  enough zero (Some i) h = absurd (omega arith)
  enough (suc n) None h = refl
  enough (suc n) (Some i) h = ap (λ is. i ∷ is) (enough n (next i) (falls i n (omega arith)))

  pub walks_on : (i : ℕ) → walk next 49 (Some i) ≡ i ∷ walk next 49 (next i)
  walks_on i = ap (λ is. i ∷ is) (enough 48 (next i) (falls i 48 (omega arith)))

  linked : (is : List ℕ) (n : ℕ) (at : Option ℕ) → Links next at is → most_from at ≤ n → walk next n at ≡ is
  linked [] zero at h m = refl
  linked [] (suc n) at h m = subst (λ at. walk next (suc n) at ≡ []) (sym h) refl
  linked (i ∷ is) n at h m =
      subst (λ at. most_from at ≤ n → walk next n at ≡ i ∷ is) (sym h.0) (go n (λ k. linked is k (next i) h.1)) m
    where
      go : (n : ℕ) → ((k : ℕ) → most_from (next i) ≤ k → walk next k (next i) ≡ is) → suc (48 - i) ≤ n → walk next n (Some i) ≡ i ∷ is
      go zero more l = absurd (omega arith)
      go (suc n) more l = ap (λ is. i ∷ is) (more n (falls i n (omega arith)))

-- Where lines are arranged, the walk from a node's first line gives the lines into it.
pub walks_lines : (lines : List Line) (r : Inputs) → Arranges lines r → (v : ℕ) → v < 16
    → walk (next_after r) 49 (first_into r v) ≡ lines_into (plan_of [] lines) v
walks_lines lines r arranges v b = linked (next_after r) r.rises (lines_into (plan_of [] lines) v) 49 (first_into r v) (arranges.linked v b) (most (first_into r v))
