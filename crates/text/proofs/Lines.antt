-- Lines, one after the other.
use Rattle.std.proofs.Common.{◌≡◌, ℕ, ◌+◌, Bool, true, false, cond, not, List, [], ◌∷◌, Ok, Err, Result, sym, refl, ap, ◌∙◌, subst, inl}
use Rattle.session.specs.Contents.{Contents}
use Rattle.std.proofs.lemmas.Bool.{and_from, cond-false, cond-true, false≢true, or_left, or_right}
use Rattle.words.specs.Pieces.{is_nil, nothing_follows}
use Rattle.text.specs.Reading.{GivesOrWants, closed, held_by_then, line_holds, line_read, lines_read, passes, some_held}
use Rattle.text.specs.Turning.{Turned, has_held}
use Rattle.words.specs.declared.faults.ReadFault.{ReadFault}
use Rattle.words.specs.declared.faults.ReadFault.TheVariants.{Byte, Rest}
use Rattle.text.specs.declared.stages.Stage.{Stage}

pub lines_none : (row : ℕ) (st : Stage) (c : Contents) → lines_read row st c [] ≡ Err (Byte (record { line = row; column = 1 }))
unfolding lines_read
lines_none row st c = refl

module _ (row : ℕ) (st : Stage) (c : Contents) (l : List ℕ) (ls : List (List ℕ)) where
  pub lines_err : (e : ReadFault) → line_read row st c l (is_nil ls) ≡ Err e → lines_read row st c (l ∷ ls) ≡ Err e
  unfolding lines_read
  lines_err e h = ap (λ r. passes r (λ t. cond t.ended (closed row ls t.held) (lines_read (row + 1) t.stage t.held ls))) h

  module _ (t : Turned) (h : line_read row st c l (is_nil ls) ≡ Ok t) where
    step : lines_read row st c (l ∷ ls) ≡ cond t.ended (closed row ls t.held) (lines_read (row + 1) t.stage t.held ls)
    unfolding lines_read
    step = ap (λ r. passes r (λ t. cond t.ended (closed row ls t.held) (lines_read (row + 1) t.stage t.held ls))) h

    pub lines_end : t.ended ≡ true → lines_read row st c (l ∷ ls) ≡ closed row ls t.held
    lines_end e = step ∙ cond-true _ _ _ e

    pub lines_more : t.ended ≡ false → lines_read row st c (l ∷ ls) ≡ lines_read (row + 1) t.stage t.held ls
    lines_more e = step ∙ cond-false _ _ _ e

-- a node or a line is held by line `row`, or later
module _ (row : ℕ) (st : Stage) (c : Contents) (l : List ℕ) (ls : List (List ℕ)) where
  pub held_now : line_holds (line_read row st c l (is_nil ls)) ≡ true → some_held row st c (l ∷ ls) ≡ true
  unfolding some_held
  held_now h = go (line_read row st c l (is_nil ls)) h
    where
      go : (r : Result Turned ReadFault) → line_holds r ≡ true → held_by_then r (λ t. some_held (row + 1) t.stage t.held ls) ≡ true
      go (Ok t) e = or_left _ _ e
      go (Err f) e = absurd (false≢true e)

  pub held_later : (t : Turned) → line_read row st c l (is_nil ls) ≡ Ok t → t.ended ≡ false → some_held (row + 1) t.stage t.held ls ≡ true → some_held row st c (l ∷ ls) ≡ true
  unfolding some_held
  held_later t h n s = ap (λ r. held_by_then r (λ t. some_held (row + 1) t.stage t.held ls)) h ∙ or_right (has_held t) _ (and_from (not t.ended) _ (ap not n) s)

-- what `close` promises
pub wants_closed : (row : ℕ) (ls : List (List ℕ)) (c : Contents) (r : Result (Unit {0}) ReadFault) (spec : Result Contents ReadFault) (May : Type 0)
    → r ≡ closed row ls tt → spec ≡ closed row ls c → GivesOrWants (λ _. c) r spec May
wants_closed row ls c r spec May e h = subst (λ r. GivesOrWants (λ _. c) r spec May) (sym e) (subst (λ s. GivesOrWants (λ _. c) (closed row ls tt) s May) (sym h) (go (nothing_follows ls)))
  where
    go : (b : Bool) → GivesOrWants (λ (_ : Unit {0}). c) (cond b (Ok tt) (Err (Rest (record { line = row + 1; column = 1 })))) (cond b (Ok c) (Err (Rest (record { line = row + 1; column = 1 })))) May
    go true = refl
    go false = inl refl
