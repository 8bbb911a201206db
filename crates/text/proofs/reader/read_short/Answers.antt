use Rattle.std.proofs.Common.{◌≡◌, if◌then◌else◌, Ok, sym, ap, ◌∙◌, ap₂}
use Rattle.session.specs.Contents.{no_contents}
use Rattle.session.specs.Drafts.{draft}
use Rattle.text.proofs.Scripting.{ready_lines}
use Rattle.text.proofs.reader.read_short.Goals as goal
use Rattle.text.specs.Reading.{lines_read}
use Rattle.text.specs.declared.stages.Stage.TheVariants.{Head}
use Rattle.words.specs.Pieces.{split}

pub returns-clause-wants : goal.returns-clause-wants
returns-clause-wants c =
    let text = c.args.text.bytes.now in
    let d = draft c.read_lines.new.self.draft in
    let read : lines_read 1 Head no_contents (split 10 text) ≡ Ok d = ap₂ (λ s d. lines_read 1 s d (split 10 text)) (sym c.new-reader.ensures.stage) (sym c.new-reader.ensures.draft) ∙ c.in_ok-read_lines.ensures in
    read ∙ ap Ok (sym (c.finish.ensures ∙ ap (λ b. if b then d else no_contents) (ready_lines text d c.args.text.short read)))
