use Rattle.std.proofs.Common.{◌≡◌, ◌+◌, ◌-◌, ◌≤◌, true}
use Rattle.session.specs.Drafts.{draft}
use Rattle.text.proofs.reader.Reader.read_lines.Given as goal
use Rattle.words.specs.Pieces.{pieces, split}
use Rattle.text.specs.Reading.{lines_read, some_held}

abbrev pub invariant-loop-line : goal.invariant-loop-line
invariant-loop-line l =
    (lines_read l.row l.self.stage (draft l.self.draft) (pieces l.lines) ≡ lines_read 1 l.initial.self.stage (draft l.initial.self.draft) (split 10 l.text.bytes.now))
    × (l.row ≤ l.lines.at + 1)
    × (some_held l.row l.self.stage (draft l.self.draft) (pieces l.lines) ≡ true → some_held 1 l.initial.self.stage (draft l.initial.self.draft) (split 10 l.text.bytes.now) ≡ true)

abbrev pub decreases-loop-line : goal.decreases-loop-line
decreases-loop-line l = 16386 - l.lines.at
