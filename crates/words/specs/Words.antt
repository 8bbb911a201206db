-- Words with their places.
use Rattle.std.specs.Prelude.{ℕ, ◌+◌, Bool, false, cond, ◌&&◌, List, [], ◌∷◌, length, ℤ, None, Option, nat_lt}
use Rattle.std.specs.Str.{bytes_eq}
use Rattle.words.specs.Bytes.{all_digits, all_letters}
use Rattle.words.specs.Numbers.{gain, unsigned, whole}
use Rattle.words.specs.Pieces.{pieces, split}
use Rattle.words.specs.declared.faults.Place.{Place}
use Rattle.words.specs.declared.words.Token.{Token}
use Rattle.words.specs.declared.words.Word.{Word}
use Rattle.words.specs.declared.words.Word.TheVariants.{Name, Number, Unknown}
use Rattle.words.specs.declared.words.Words.{Words}

-- A word: letters; digits, after a hyphen if negative; or anything else.
pub data Spelling : Type 0 where
  name : List ℕ → Spelling
  number : List ℕ → Spelling
  unknown : List ℕ → Spelling

abbrev pub has_digits : List ℕ → Bool
has_digits ds = nat_lt 0 (length ds) && all_digits ds

unfoldable pub spelling : List ℕ → Spelling
spelling bs = cond (all_letters bs) (name bs) (cond (has_digits (unsigned bs)) (number bs) (unknown bs))

-- A word with its place.
pub record Item : Type 0 where
  pub word : Spelling
  pub place : Place

-- The words of line `row`, of which the first stands at column c.
unfoldable pub placed : ℕ → ℕ → List (List ℕ) → List Item
placed row c [] = []
placed row c (p ∷ ps) = record { word = spelling p; place = record { line = row; column = c } } ∷ placed row (c + length p + 1) ps

-- The words that are left of a line, and the place after the line.
pub record Cursor : Type 0 where
  pub after : Place
  pub items : List Item

-- All words of a line.
abbrev pub line_words : ℕ → List ℕ → Cursor
line_words row bytes = record { after = record { line = row; column = length bytes + 1 }; items = placed row 1 (split 32 bytes) }

abbrev pub spelt : Word → Spelling
spelt (Name b) = name b.now
spelt (Number b) = number b.now
spelt (Unknown b) = unknown b.now

abbrev pub item : Token → Item
item t = record { word = spelt t.word; place = t.place }

unfoldable pub cursor : Words → Cursor
cursor w = record {
  after = record { line = w.line; column = length w.pieces.text.bytes.now + 1 };
  items = placed w.line (w.pieces.at + 1) (pieces w.pieces);
}

-- Whether a word is this name.
abbrev pub is_name : List ℕ → Spelling → Bool
is_name key (name bs) = bytes_eq bs key
is_name key (number bs) = false
is_name key (unknown bs) = false

-- The 1 of a session line.
abbrev pub is_one : Spelling → Bool
is_one (name bs) = false
is_one (number bs) = bytes_eq bs (49 ∷ [])
is_one (unknown bs) = false

abbrev pub whole_of : Spelling → Option ℕ
whole_of (name bs) = None
whole_of (number bs) = whole bs
whole_of (unknown bs) = None

abbrev pub gain_of : Spelling → Option ℤ
gain_of (name bs) = None
gain_of (number bs) = gain bs
gain_of (unknown bs) = None
