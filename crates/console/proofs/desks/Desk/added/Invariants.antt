use Rattle.std.proofs.Common.{pos}
use Rattle.console.proofs.Adding.{Adding}
use Rattle.console.proofs.desks.Desk.added.Given as goal
use Rattle.console.specs.Desks.{desk_plan}
use Rattle.patch.specs.Patches.{delay_of}
use Rattle.patch.specs.Walks.{numbers_left}
use Rattle.playing.specs.Tape.{on_tape}
use Rattle.signals.specs.Signals.{brought}

abbrev pub invariant-loop-i : goal.invariant-loop-i
invariant-loop-i l =
    (goal.iterator-loop-i).can_next l.i-iterator
    × (goal.iterator-loop-i).is_finite l.i-iterator
    × Adding l.self (brought (desk_plan l.self) (delay_of l.self.patch) (on_tape l.tape) (pos l.n)) l.v l.sum (numbers_left l.i-iterator)
