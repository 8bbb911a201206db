use Rattle.std.proofs.Common.{◌≡◌, ℕ, ◌<◌, true}
use Rattle.patch.proofs.wirings.Wiring.next_node.Given as goal
use Rattle.patch.specs.Orders.{listed}
use Rattle.patch.specs.Placing.{Follows, stands}
use Rattle.patch.specs.Wirings.{wired}
use Rattle.session.specs.Plan.{line}

abbrev pub invariant-loop-line : goal.invariant-loop-line
invariant-loop-line l =
    (i : ℕ) → i < l.line-index → (line (wired l.self) i).end ≡ l.v → stands (listed l.order) (line (wired l.self) i).start ≡ true

abbrev pub invariant-nodes : goal.invariant-nodes
invariant-nodes l = (w : ℕ) → w < l.v → Follows (wired l.self) (listed l.order) w → ⊥
