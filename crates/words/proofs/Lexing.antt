-- Words, one after the other.
use Rattle.std.proofs.Common.{◌≡◌, ℕ, ◌+◌, cond, leb, List, [], ◌∷◌, length, drop, Ok, Err, sym, refl, ap, ◌∙◌, arith}
use Rattle.words.specs.Parsing.{first_word, without_first, word}
use Rattle.words.specs.Pieces.{is_nil, pieces, split}
use Rattle.words.specs.Words.{cursor, line_words, placed, spelling}
use Rattle.words.specs.declared.faults.ReadFault.TheVariants.{Form}
use Rattle.words.specs.declared.pieces.Pieces.{Pieces}
use Rattle.words.specs.declared.words.Words.{Words}

pub words_new : (ps : Pieces) (row : ℕ) (bytes : List ℕ) → pieces ps ≡ split 32 bytes → ps.at ≡ 0 → ps.text.bytes.now ≡ bytes → cursor (record { pieces = ps; line = row }) ≡ line_words row bytes
unfolding cursor
words_new ps row bytes p a b = λ i. record { after = record { line = row; column = length (b i) + 1 }; items = placed row (a i + 1) (p i) }

-- no word is left where no piece is
pub done_is : (w : Words) → is_nil (pieces w.pieces) ≡ is_nil (cursor w).items
unfolding cursor placed
done_is w = go (pieces w.pieces)
  where
    go : (ps : List (List ℕ)) → is_nil ps ≡ is_nil (placed w.line (w.pieces.at + 1) ps)
    go [] = refl
    go (p ∷ ps) = refl

pub lex_none : (w : Words) → pieces w.pieces ≡ [] → word (cursor w) ≡ Err (Form (cursor w).after)
unfolding cursor placed
lex_none w e = ap (λ ps. first_word (cursor w).after (placed w.line (w.pieces.at + 1) ps)) e

pub lex_some : (w v : Words) (bytes : List ℕ) → v.line ≡ w.line → v.pieces.text.bytes.now ≡ w.pieces.text.bytes.now → pieces w.pieces ≡ bytes ∷ pieces v.pieces
    → v.pieces.at ≡ w.pieces.at + length bytes + 1
    → word (cursor w) ≡ Ok (record { word = spelling bytes; place = record { line = w.line; column = w.pieces.at + 1 } }, cursor v)
unfolding cursor placed
lex_some w v bytes el eb e ea =
    let next : w.pieces.at + 1 + length bytes + 1 ≡ v.pieces.at + 1 = omega arith in
    ap (λ ps. first_word (cursor w).after (placed w.line (w.pieces.at + 1) ps)) e
    ∙ (λ i. Ok (
      record { word = spelling bytes; place = record { line = w.line; column = w.pieces.at + 1 } },
      record { after = record { line = sym el i; column = length (sym eb i) + 1 }; items = placed (sym el i) (next i) (pieces v.pieces) },
    ))

-- the words that are left, by where they stand
pub same_cursor : (w v : Words) → w.line ≡ v.line → w.pieces.text.bytes.now ≡ v.pieces.text.bytes.now → w.pieces.mark ≡ v.pieces.mark → w.pieces.at ≡ v.pieces.at → cursor w ≡ cursor v
unfolding cursor pieces
same_cursor w v el eb em ea i = record {
  after = record { line = el i; column = length (eb i) + 1 };
  items = placed (el i) (ea i + 1) (cond (leb (ea i) (length (eb i))) (split (em i) (drop (ea i) (eb i))) []);
}

-- one word fewer
pub lex_left : (w v : Words) (bytes : List ℕ) → v.line ≡ w.line → v.pieces.text.bytes.now ≡ w.pieces.text.bytes.now → pieces w.pieces ≡ bytes ∷ pieces v.pieces
    → v.pieces.at ≡ w.pieces.at + length bytes + 1
    → cursor v ≡ without_first (cursor w)
unfolding cursor placed
lex_left w v bytes el eb e ea =
    let next : v.pieces.at + 1 ≡ w.pieces.at + 1 + length bytes + 1 = omega arith in
    (λ i. record { after = record { line = el i; column = length (eb i) + 1 }; items = placed (el i) (next i) (pieces v.pieces) })
    ∙ ap (λ ps. record { after = (cursor w).after; items = drop 1 (placed w.line (w.pieces.at + 1) ps) }) (sym e)

pub lex_stays : (w : Words) → pieces w.pieces ≡ [] → cursor w ≡ without_first (cursor w)
unfolding cursor placed
lex_stays w e =
    ap (λ ps. record { after = (cursor w).after; items = placed w.line (w.pieces.at + 1) ps }) e
    ∙ ap (λ ps. record { after = (cursor w).after; items = drop 1 (placed w.line (w.pieces.at + 1) ps) }) (sym e)
