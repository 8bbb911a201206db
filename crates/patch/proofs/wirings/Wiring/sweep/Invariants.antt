use Rattle.std.proofs.Common.{◌≡◌, length}
use Rattle.patch.proofs.wirings.Wiring.sweep.Given as goal
use Rattle.patch.specs.Sweeps.{by_node, SweptTo}

abbrev pub invariant-loop-v : goal.invariant-loop-v
invariant-loop-v g l =
    (length l.values ≡ 16)
    × SweptTo (g.F.Flow.kind l.kind) l.self.lines.now l.order l.v-index (by_node (g.F.Flow.kind l.kind) l.values)
