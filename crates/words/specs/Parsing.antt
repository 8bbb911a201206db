-- Reading the words of a line from left to right: each step takes words from the front, or refuses.
use Rattle.std.specs.Prelude.{ℕ, Bool, cond, List, [], ◌∷◌, drop, ℤ, Ok, Err, Option, Result}
use Rattle.std.specs.Option.{ok_or}
use Rattle.words.specs.Numbers.{between}
use Rattle.words.specs.Words.{Cursor, Item, gain_of, is_name, whole_of}
use Rattle.words.specs.declared.faults.Place.{Place}
use Rattle.words.specs.declared.faults.ReadFault.{ReadFault}
use Rattle.words.specs.declared.faults.ReadFault.TheVariants.{Form, Number}

infixl 20 ◌>>=◌
infixl 20 ◌>>◌
-- What a step makes of the words that are left: a value and the words after it, or a fault.
abbrev pub Parse : Type 0 → Type 0
Parse X = Cursor → Result (X × Cursor) ReadFault

abbrev pub give : {X : Type 0} → X → Parse X
give x k = Ok (x, k)

abbrev pub refuse : {X : Type 0} → ReadFault → Parse X
refuse e k = Err e

abbrev pub then : {X Y : Type 0} → Result (X × Cursor) ReadFault → (X → Parse Y) → Result (Y × Cursor) ReadFault
then (Ok p) f = f p.0 p.1
then (Err e) f = Err e

-- One step, and then the next.
abbrev pub ◌>>=◌ : {X Y : Type 0} → Parse X → (X → Parse Y) → Parse Y
◌>>=◌ p f k = then (p k) f

abbrev pub ◌>>◌ : {X Y : Type 0} → Parse X → Parse Y → Parse Y
◌>>◌ p q k = then (p k) (λ _. q)

-- What a call answers, beside the words that it leaves.
abbrev pub paired : {T X : Type 0} → (T → X) → Result T ReadFault → Cursor → Result (X × Cursor) ReadFault
paired f (Ok t) k = Ok (f t, k)
paired f (Err e) k = Err e

-- Yes, or a fault.
abbrev pub ask : Bool → ReadFault → Parse (Unit {0})
ask b e = cond b (give tt) (refuse e)

abbrev pub asked : {X : Type 0} → Option X → ReadFault → Parse X
asked o e k = paired (λ x. x) (ok_or o e) k

abbrev pub first_word : Place → List Item → Result (Item × Cursor) ReadFault
first_word after [] = Err (Form after)
first_word after (w ∷ ws) = Ok (w, record { after = after; items = ws })

-- The next word; a missing word is refused after the line.
abbrev pub word : Parse Item
word k = first_word k.after k.items

-- One word fewer, if there is one.
abbrev pub without_first : Cursor → Cursor
without_first k = record { after = k.after; items = drop 1 k.items }

abbrev pub nothing_left : Cursor → List Item → Result (Unit {0} × Cursor) ReadFault
nothing_left k [] = Ok (tt, k)
nothing_left k (w ∷ ws) = Err (Form w.place)

-- No further word; an extra one is refused at itself.
abbrev pub no_more : Parse (Unit {0})
no_more k = nothing_left k k.items

-- A word that has to be this name.
abbrev pub keyword : List ℕ → Parse (Unit {0})
keyword key = word >>= (λ w. ask (is_name key w.word) (Form w.place))

-- A word that has to be a number from low to high.
abbrev pub number_in : ℕ → ℕ → Item → Parse ℕ
number_in low high w = asked (between low high (whole_of w.word)) (Number w.place)

abbrev pub ranged : ℕ → ℕ → Parse ℕ
ranged low high = word >>= number_in low high

-- A word that has to be a gain.
abbrev pub gain_word : Parse ℤ
gain_word = word >>= (λ w. asked (gain_of w.word) (Number w.place))
