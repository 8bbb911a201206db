-- A whole line, from its first word.
use Rattle.std.proofs.Common.{◌≡◌, true, not, ◌&&◌, is_some, is_ok, Some, None, Ok, Err, Option, Result, unwrap_or, sym, refl, ap, ◌∙◌, inl, inr}
use Rattle.session.specs.Contents.{Contents}
use Rattle.session.specs.declared.sessions.drafts.Draft.{Draft}
use Rattle.std.proofs.lemmas.Bool.{false≢true}
use Rattle.words.specs.Parsing.{Parse, asked, give, then, word, ◌>>=◌}
use Rattle.text.specs.Stages.{first_of, is_end, next_stage}
use Rattle.text.specs.Reading.{line_holds, value_of}
use Rattle.text.specs.Turning.{RoomUsed, SomeFull, Turned, late, turn, whole_turn}
use Rattle.words.specs.Words.{Cursor, Item}
use Rattle.words.specs.declared.faults.ReadFault as faults
use Rattle.words.specs.declared.faults.ReadFault.TheVariants.{First as NotDue}
use Rattle.text.specs.declared.stages.First as firsts
use Rattle.text.specs.declared.stages.First.TheVariants.{Session, Unit, Layer, Node, Line, End, Other}
use Rattle.text.specs.declared.stages.Stage.{Stage}
use Rattle.text.specs.declared.stages.Stage.TheVariants.{Head, Units, Nodes, Lines}

-- a line that wants memory brings the reader among nodes or lines
wants_late : (st : Stage) (first : firsts.First) (d : Draft) → RoomUsed first d → is_some (next_stage st first) ≡ true → late (unwrap_or (next_stage st first) st) && not (is_end first) ≡ true
wants_late st Session d a due = absurd a
wants_late st Unit d a due = absurd a
wants_late st Layer d a due = absurd a
wants_late Head Node d a due = absurd (false≢true due)
wants_late Units Node d a due = refl
wants_late Nodes Node d a due = refl
wants_late Lines Node d a due = absurd (false≢true due)
wants_late Head Line d a due = absurd (false≢true due)
wants_late Units Line d a due = absurd (false≢true due)
wants_late Nodes Line d a due = refl
wants_late Lines Line d a due = refl
wants_late st End d a due = absurd a
wants_late st Other d a due = absurd a

pub some_full : (first : firsts.First) (d : Draft) → RoomUsed first d → SomeFull d
some_full Session d a = absurd a
some_full Unit d a = absurd a
some_full Layer d a = absurd a
some_full Node d a = inl a
some_full Line d a = inr a
some_full End d a = absurd a
some_full Other d a = absurd a

abbrev pub rest_turn : firsts.First → Contents → Item → Stage → Parse Turned
rest_turn first c w next = turn first c w >>= (λ d. give (record { stage = next; held = d; ended = is_end first }))

abbrev pub after_word : Stage → Contents → Item → firsts.First → Parse Turned
after_word st c w first = asked (next_stage st first) (NotDue w.place) >>= rest_turn first c w

module _ (st : Stage) (c : Contents) (k : Cursor) (w : Item) (k₁ : Cursor) (first : firsts.First) (hw : Ok (w, k₁) ≡ word k) (hf : first ≡ first_of w.word) where
  to_first : whole_turn st c k ≡ after_word st c w first k₁
  to_first = ap (λ r. then r (λ v. after_word st c v (first_of v.word))) (sym hw) ∙ ap (λ f. after_word st c w f k₁) (sym hf)

  module _ (due : is_some (next_stage st first) ≡ true) where
    to_turn : whole_turn st c k ≡ rest_turn first c w (unwrap_or (next_stage st first) st) k₁
    to_turn = to_first ∙ go (next_stage st first) due
      where
        go : (o : Option Stage) → is_some o ≡ true → then (asked o (NotDue w.place) k₁) (rest_turn first c w) ≡ rest_turn first c w (unwrap_or o st) k₁
        go None e = absurd (false≢true e)
        go (Some s) e = refl

    pub turn_holds : (d : Draft) → is_ok (turn first c w k₁) ≡ true → RoomUsed first d → line_holds (value_of (whole_turn st c k)) ≡ true
    turn_holds d o a = ap (λ r. line_holds (value_of r)) to_turn ∙ go (turn first c w k₁) o
      where
        go : (r : Result (Contents × Cursor) faults.ReadFault) → is_ok r ≡ true → line_holds (value_of (then r (λ x. give (record { stage = unwrap_or (next_stage st first) st; held = x; ended = is_end first })))) ≡ true
        go (Ok p) e = wants_late st first d a due
        go (Err f) e = absurd (false≢true e)

    pub turn_err : (e : faults.ReadFault) → turn first c w k₁ ≡ Err e → whole_turn st c k ≡ Err e
    turn_err e h = to_turn ∙ ap (λ r. then r (λ x. give (record { stage = unwrap_or (next_stage st first) st; held = x; ended = is_end first }))) h
