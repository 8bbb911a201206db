use Rattle.std.proofs.Common.{◌≡◌, ℕ, ◌<◌, Bool, true, false, List, [], ◌∷◌, ◌++◌, length, get_or, set, sym, ◌∙◌, subst, subst₂, inl, inr, arith}
use Rattle.patch.proofs.Standing.{stands_new, stands_other}
use Rattle.patch.proofs.orders.Order.push.Goals as goal
use Rattle.patch.specs.Placing.{stands}
use Rattle.std.proofs.lemmas.Bool.{cases_eq}
use Rattle.std.proofs.lemmas.List.{get_or-set_other, get_or-set_same, length-set}

agrees : (nodes : List ℕ) (placed : List Bool) (v : ℕ) → v < length placed → ((w : ℕ) → get_or placed w false ≡ stands nodes w)
    → (w : ℕ) → get_or (set placed v true) w false ≡ stands (nodes ++ v ∷ []) w
agrees nodes placed v l h w =
    elim (cases_eq v w) [
      | inl e ↦ subst (λ u. get_or (set placed v true) u false ≡ stands (nodes ++ v ∷ []) u) e (get_or-set_same placed v true false l ∙ sym (stands_new nodes v))
      | inr ne ↦ get_or-set_other placed v w true false (λ e. ne (sym e)) ∙ (h w ∙ sym (stands_other nodes v w ne))
    ]

pub invariant_of-self-clause-agrees : goal.invariant_of-self-clause-agrees
invariant_of-self-clause-agrees c =
    let self = c.args.self.now in
    subst₂ (λ at items. (w : ℕ) → get_or (set self.placed at true) w false ≡ stands items w) (sym c.from.ensures) (sym c.push.ensures.items)
    (agrees self.nodes.items self.placed c.args.v (omega (arith, self.sixteen, c.requires.node)) self.agrees)

pub invariant_of-self-clause-sixteen : goal.invariant_of-self-clause-sixteen
invariant_of-self-clause-sixteen c = length-set c.args.self.now.placed c.from.result true ∙ c.args.self.now.sixteen
