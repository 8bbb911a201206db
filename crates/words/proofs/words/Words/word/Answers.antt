use Rattle.std.proofs.Common.{◌+◌, length, Ok, Err, sym, refl, ap, ◌∙◌, ap₂}
use Rattle.words.proofs.Lexing.{lex_left, lex_none, lex_some, lex_stays, same_cursor}
use Rattle.words.proofs.words.Words.word.Goals as goal
use Rattle.words.specs.Words.{cursor, spelling}
use Rattle.words.specs.declared.faults.ReadFault.TheVariants.{Form}

pub returns : goal.returns
returns c =
    let e = c.in-Some.ensures in
    let bytes = c.in-Some.piece.bytes.now in
    record {
      value = sym (lex_some c.args.self.now (record { pieces = c.next.new.self; line = c.args.self.now.line }) bytes refl e.bytes e.cut.0 e.cut.1
          ∙ ap₂ (λ s k. Ok (record { word = s; place = record { line = c.args.self.now.line; column = k + 1 } }, cursor (record { pieces = c.next.new.self; line = c.args.self.now.line })))
          (ap spelling (sym c.bytes.ensures.value) ∙ sym c.word_of.ensures) (sym c.at-column.ensures.value));
      left = lex_left c.args.self.now (record { pieces = c.next.new.self; line = c.args.self.now.line }) bytes refl e.bytes e.cut.0 e.cut.1;
    }

pub returns-in_default : goal.returns-in_default
unfolding cursor
returns-in_default c =
    let e = c.in_default.ensures in
    record {
      value = sym (lex_none c.args.self.now e.cut
          ∙ ap (λ n. Err (Form (record { line = c.args.self.now.line; column = n + 1 }))) (sym (c.len.ensures.value ∙ ap length e.bytes)));
      left = same_cursor (record { pieces = c.next.new.self; line = c.args.self.now.line }) c.args.self.now refl e.bytes e.mark (e.stays refl) ∙ lex_stays c.args.self.now e.cut;
    }
