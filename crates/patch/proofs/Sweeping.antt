-- One node further along an order.
use Rattle.std.proofs.Common.{◌≡◌, ℕ, ◌+◌, ◌<◌, List, [], length, get_or, set, sym, ap, ◌∙◌, subst, inl, inr, arith}
use Rattle.patch.proofs.Joining.{swept_same}
use Rattle.patch.specs.Placing.{place_in, plan_of}
use Rattle.patch.specs.Sweeps.{Along, Kind, OneSweep, SweptTo, by_node, swept}
use Rattle.session.specs.Plan.{line}
use Rattle.session.specs.declared.nodes.Line.{Line}
use Rattle.signals.proofs.Order.{from_starts}
use Rattle.std.proofs.lemmas.List.{get_or-set_other, get_or-set_same}
use Rattle.std.proofs.lemmas.Bool.{cases_eq}

module _ {X : Type 0} (kind : Kind X) (lines : List Line) (order : List ℕ) (along : Along lines order) (values : List X) (k : ℕ) (x : X)
    (inside : k < length order) (sixteen : length values ≡ 16) where
  -- A node that is placed before keeps its value.
  kept : (w : ℕ) → place_in order w < k → by_node kind (set values (get_or order k 0) x) w ≡ by_node kind values w
  kept w b = get_or-set_other values (get_or order k 0) w x kind.start (λ e. omega (arith, along.once k inside, ap (place_in order) e))

  -- And so does all that a node of the order up to here hears.
  hears : (j : ℕ) → j < k + 1
      → swept kind (plan_of [] lines) (by_node kind (set values (get_or order k 0) x)) (get_or order j 0)
      ≡ swept kind (plan_of [] lines) (by_node kind values) (get_or order j 0)
  hears j l =
      swept_same kind (plan_of [] lines) (by_node kind (set values (get_or order k 0) x)) (by_node kind values) (get_or order j 0)
      (λ i b e. kept (line (plan_of [] lines) i).start (omega (arith, along.after j i (omega arith) b e)))

  pub sweeps_on : SweptTo kind lines order k (by_node kind values) → x ≡ swept kind (plan_of [] lines) (by_node kind values) (get_or order k 0)
      → SweptTo kind lines order (k + 1) (by_node kind (set values (get_or order k 0) x))
  sweeps_on before here j l =
      elim (cases_eq k j) [
        | inl e ↦ subst (λ j. by_node kind (set values (get_or order k 0) x) (get_or order j 0)
            ≡ swept kind (plan_of [] lines) (by_node kind (set values (get_or order k 0) x)) (get_or order j 0)) e
            (get_or-set_same values (get_or order k 0) x kind.start (omega (arith, along.small k inside)) ∙ (here ∙ sym (hears k (omega arith))))
        | inr ne ↦ kept (get_or order j 0) (omega (arith, along.once j (omega arith))) ∙ (before j (omega arith) ∙ sym (hears j l))
      ]

pub one_sweep : (X : Type 0) → OneSweep X
one_sweep X kind p place rules order a b s t =
    from_starts p place rules order (λ v. a v ≡ b v) (λ v l before. s v l ∙ (swept_same kind p a b v before ∙ sym (t v l)))
