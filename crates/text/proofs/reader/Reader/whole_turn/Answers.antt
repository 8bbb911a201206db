use Rattle.std.proofs.Common.{sym, ◌∙◌, inl, inr, ⊎_elim}
use Rattle.session.specs.Drafts.{draft}
use Rattle.std.proofs.lemmas.Result.{err_from_is_err_and}
use Rattle.text.proofs.Whole.{some_full, turn_err, turn_holds}
use Rattle.text.proofs.reader.Reader.whole_turn.Goals as goal
use Rattle.words.specs.Words.{cursor, item}

pub returns-in_err-turn : goal.returns-in_err-turn
returns-in_err-turn c =
    let p = err_from_is_err_and c.from_residual-in_err-turn.result c.from_residual-in_err-turn.ensures.1 in
    let r = c.args.self.now in
    let due = sym c.advance.ensures.due ∙ c.if-not-advance.false in
    rw (p.1, p.2) (⊎_elim
    (λ h. inl (turn_err r.stage (draft r.draft) (cursor c.args.words.now) (item c.in_ok-word.word) (cursor c.word.new.self) c.first_of-first.result c.in_ok-word.ensures.value c.first_of-first.ensures due _ h))
    (λ q. inr (
      q.0,
      (
        turn_holds r.stage (draft r.draft) (cursor c.args.words.now) (item c.in_ok-word.word) (cursor c.word.new.self) c.first_of-first.result c.in_ok-word.ensures.value c.first_of-first.ensures due r.draft q.1.0 q.1.1,
        some_full c.first_of-first.result r.draft q.1.1,
      ),
    ))
    c.in_err-turn.ensures)
