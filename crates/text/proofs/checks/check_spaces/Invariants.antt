use Rattle.std.proofs.Common.{◌≡◌, ◌+◌, ◌-◌}
use Rattle.text.proofs.checks.check_spaces.Given as goal
use Rattle.words.specs.Pieces.{pieces, split}
use Rattle.text.specs.Reading.{spaces_check}

abbrev pub invariant-loop-word : goal.invariant-loop-word
invariant-loop-word l = spaces_check l.row (l.words.at + 1) (pieces l.words) ≡ spaces_check l.row 1 (split 32 l.fn.line.bytes.now)

abbrev pub decreases-loop-word : goal.decreases-loop-word
decreases-loop-word l = 16386 - l.words.at
