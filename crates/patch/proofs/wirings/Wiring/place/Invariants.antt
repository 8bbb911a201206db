use Rattle.std.proofs.Common.{◌≡◌, ◌-◌, length}
use Rattle.patch.proofs.Placed.{Sound}
use Rattle.patch.proofs.wirings.Wiring.place.Given as goal
use Rattle.patch.specs.Orders.{listed}
use Rattle.patch.specs.Placing.{grown, order_of}
use Rattle.patch.specs.Wirings.{wired}

abbrev pub invariant-loop-v : goal.invariant-loop-v
invariant-loop-v l =
    Sound (wired l.self) (listed l.order)
    × (grown (wired l.self) (length l.self.nodes.now - length (listed l.order)) (listed l.order) ≡ order_of (wired l.self))

abbrev pub decreases-loop-v : goal.decreases-loop-v
decreases-loop-v l = length l.self.nodes.now - length (listed l.order)
