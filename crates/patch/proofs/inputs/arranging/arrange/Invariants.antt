use Rattle.std.proofs.Common.{◌≡◌, ℕ, ◌<◌, ◌≤◌, [], length}
use Rattle.patch.proofs.Linking.{Linked, Rises}
use Rattle.patch.proofs.inputs.arranging.arrange.Given as goal
use Rattle.patch.specs.Placing.{plan_of}
use Rattle.session.specs.Plan.{line}

abbrev pub invariant-loop-i : goal.invariant-loop-i
invariant-loop-i l =
    let left = l.i-iterator.iter.iter.rest.now in
    (l.i-iterator.iter.count ≡ 0)
    × (length left ≤ length l.lines)
    × ((j : ℕ) → j < length left → line (plan_of [] left) j ≡ line (plan_of [] l.lines) j)
    × (length l.first ≡ 16)
    × (length l.next ≡ 48)
    × Linked l.lines l.first l.next (length left)
    × Rises l.next
