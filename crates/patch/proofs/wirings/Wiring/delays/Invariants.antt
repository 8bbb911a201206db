use Rattle.std.proofs.Common.{◌≡◌, ℕ, ◌-◌, ◌<◌, length, get_or}
use Rattle.patch.proofs.wirings.Wiring.delays.Given as goal
use Rattle.patch.specs.Wirings.{wired}
use Rattle.session.specs.Plan.{line}

abbrev pub invariant-loop-line : goal.invariant-loop-line
invariant-loop-line l =
    (length l.held.items ≡ l.line-index)
    × ((j : ℕ) → j < l.line-index
    → get_or l.held.items j 0
    ≡ (get_or l.late (line (wired l.self) j).end 0 - get_or l.units (line (wired l.self) j).end 0) - get_or l.late (line (wired l.self) j).start 0)
