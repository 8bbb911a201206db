use Rattle.patch.proofs.Hearing.{Hearing}
use Rattle.patch.proofs.wirings.Wiring.hear.Given as goal
use Rattle.patch.specs.Walks.{numbers_left}

abbrev pub invariant-loop-i : goal.invariant-loop-i
invariant-loop-i g l =
    (goal.iterator-loop-i g).can_next l.i-iterator
    × (goal.iterator-loop-i g).is_finite l.i-iterator
    × Hearing (g.F.Flow.kind l.kind) l.self.lines.now l.values l.v l.heard (numbers_left l.i-iterator)
