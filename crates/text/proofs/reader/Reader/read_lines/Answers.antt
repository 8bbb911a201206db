use Rattle.std.proofs.Common.{sym, ap, ◌∙◌, inl, inr, ⊎_elim, arith}
use Rattle.session.specs.Drafts.{draft}
use Rattle.std.proofs.lemmas.Result.{err_from_is_err_and}
use Rattle.text.proofs.Lines.{held_later, held_now, lines_end, lines_err, lines_more, lines_none, wants_closed}
use Rattle.text.proofs.reader.Reader.read_lines.Goals as goal
use Rattle.words.specs.Pieces.{pieces}
use Rattle.text.specs.Reading.{line_holds, line_read, lines_read, some_held}

pub returns-in_err-ended : goal.returns-in_err-ended
returns-in_err-ended c =
    let p = err_from_is_err_and c.from_residual.result c.from_residual.ensures.1 in
    let row = c.loop-line.row in
    let st = c.loop-line.self.stage in
    let d = draft c.loop-line.self.draft in
    let line = c.in-Some.line.bytes.now in
    rw (p.1, p.2) (⊎_elim
    (λ h. inl (sym c.loop-line.invariant.0 ∙ ap (lines_read row st d) c.in-Some.ensures.cut.0
    ∙ lines_err row st d line (pieces c.next.new.self) _ (ap (line_read row st d line) (sym c.is_done.ensures) ∙ h)))
    (λ q. inr (
      q.0,
      c.loop-line.invariant.2 (ap (some_held row st d) c.in-Some.ensures.cut.0
          ∙ held_now row st d line (pieces c.next.new.self) (ap (λ b. line_holds (line_read row st d line b)) (sym c.is_done.ensures) ∙ q.1.0)),
    ))
    c.in_err-ended.ensures)

pub returns-then-ended : goal.returns-then-ended
returns-then-ended c =
    let row = c.loop-line.row in
    let st = c.loop-line.self.stage in
    let d = draft c.loop-line.self.draft in
    let line = c.in-Some.line.bytes.now in
    wants_closed row (pieces c.next.new.self) (draft c.read_line.new.self.draft) c.close.result _ _ c.close.ensures
    (sym c.loop-line.invariant.0 ∙ ap (lines_read row st d) c.in-Some.ensures.cut.0
    ∙ lines_end row st d line (pieces c.next.new.self) _ (ap (line_read row st d line) (sym c.is_done.ensures) ∙ c.in_ok-ended.ensures) c.if-ended.true)

pub loop-line-preserved : goal.loop-line-preserved
loop-line-preserved c =
    let row = c.loop-line.row in
    let st = c.loop-line.self.stage in
    let d = draft c.loop-line.self.draft in
    let line = c.in-Some.line.bytes.now in
    let read = ap (line_read row st d line) (sym c.is_done.ensures) ∙ c.in_ok-ended.ensures in
    let e = c.in-Some.ensures.cut in
    let i = c.loop-line.invariant.1 in (
      sym (ap (lines_read row st d) e.0 ∙ lines_more row st d line (pieces c.next.new.self) _ read c.if-ended.false) ∙ c.loop-line.invariant.0,
      omega (arith, e.1),
      λ s. c.loop-line.invariant.2 (ap (some_held row st d) e.0 ∙ held_later row st d line (pieces c.next.new.self) _ read c.if-ended.false s),
    )

pub returns : goal.returns
returns c =
    let d = draft c.loop-line.self.draft in
    inl (sym c.loop-line.invariant.0 ∙ ap (lines_read c.loop-line.row c.loop-line.self.stage d) c.in_default.ensures.cut ∙ lines_none c.loop-line.row c.loop-line.self.stage d)
