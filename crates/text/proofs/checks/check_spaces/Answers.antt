use Rattle.std.proofs.Common.{◌≡◌, ◌+◌, true, eqb, length, Err, sym, ap, ◌∙◌, arith}
use Rattle.std.proofs.lemmas.Bool.{eqb-true}
use Rattle.text.proofs.Spaces.{spaces_gap, spaces_more, spaces_none}
use Rattle.text.proofs.checks.check_spaces.Goals as goal
use Rattle.words.specs.Pieces.{pieces}
use Rattle.text.specs.Reading.{spaces_check}
use Rattle.words.specs.declared.faults.ReadFault.TheVariants.{Space}

pub returns-then-is_empty : goal.returns-then-is_empty
returns-then-is_empty c =
    let e = c.in-Some.ensures.cut in
    let empty : eqb (length c.in-Some.word.bytes.now) 0 ≡ true = sym (ap (λ b. eqb (length b) 0) c.bytes.ensures.value) ∙ sym c.is_empty.ensures ∙ c.if-is_empty.true in
    let none = eqb-true _ _ empty in
    let v = c.at.ensures.value in
    let at : c.at.result ≡ c.loop-word.words.at + 1 = omega (arith, e.1, none, v) in
    ap (λ n. Err (Space (record { line = c.args.row; column = n }))) at
    ∙ sym (ap (spaces_check c.args.row (c.loop-word.words.at + 1)) e.0
    ∙ spaces_gap c.args.row (c.loop-word.words.at + 1) c.in-Some.word.bytes.now (pieces c.next.new.self) empty)
    ∙ c.loop-word.invariant

pub loop-word-preserved : goal.loop-word-preserved
loop-word-preserved c =
    let e = c.in-Some.ensures.cut in
    let n = length c.in-Some.word.bytes.now in
    let at : c.next.new.self.at + 1 ≡ c.loop-word.words.at + 1 + n + 1 = omega (arith, e.1) in
    ap (λ k. spaces_check c.args.row k (pieces c.next.new.self)) at
    ∙ sym (ap (spaces_check c.args.row (c.loop-word.words.at + 1)) e.0
    ∙ spaces_more c.args.row (c.loop-word.words.at + 1) c.in-Some.word.bytes.now (pieces c.next.new.self)
    (sym (ap (λ b. eqb (length b) 0) c.bytes.ensures.value) ∙ sym c.is_empty.ensures ∙ c.if-is_empty.false))
    ∙ c.loop-word.invariant

pub returns : goal.returns
returns c =
    sym (ap (spaces_check c.args.row (c.loop-word.words.at + 1)) c.in_default.ensures.cut ∙ spaces_none c.args.row (c.loop-word.words.at + 1)) ∙ c.loop-word.invariant
