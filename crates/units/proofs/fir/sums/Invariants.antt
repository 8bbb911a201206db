use Rattle.std.proofs.Common.{◌≡◌, ◌*◌, ◌≤◌, nat_abs}
use Rattle.units.proofs.fir.sums.Given as goal
use Rattle.units.specs.Heard.{heard}
use Rattle.units.specs.Taps.{tapped}

abbrev pub invariant-loop-k : goal.invariant-loop-k
invariant-loop-k l =
    (l.left ≡ tapped l.taps (λ f. f.left) (heard l.past) l.k)
    × (l.right ≡ tapped l.taps (λ f. f.right) (heard l.past) l.k)
    × (nat_abs l.left ≤ 1073741824 * l.k)
    × (nat_abs l.right ≤ 1073741824 * l.k)
