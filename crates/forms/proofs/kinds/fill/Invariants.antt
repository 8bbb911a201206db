use Rattle.std.proofs.Common.{◌≡◌, ◌-◌, ◌++◌, drop}
use Rattle.forms.proofs.kinds.fill.Given as goal
use Rattle.forms.specs.Forms.{taps_form}
use Rattle.words.specs.Words.{cursor}

abbrev pub invariant-loop-tap : goal.invariant-loop-tap
invariant-loop-tap l = taps_form l.tap-index (l.count - l.tap-index) (l.tap-items ++ drop l.count l.fn.taps) (cursor l.words) ≡ taps_form 0 l.count l.fn.taps (cursor l.fn.words)
