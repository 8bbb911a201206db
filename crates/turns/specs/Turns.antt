-- What each line makes of what is held.
use Rattle.std.specs.Prelude.{◌≡◌, Bool, true, false, ◌⊎◌, Ok, Err, Result}
use Rattle.forms.specs.Forms.{line_form, node_form, session_form, unit_form}
use Rattle.session.specs.Contents.{Contents, with_line, with_node, with_rate, with_unit}
use Rattle.session.specs.declared.sessions.drafts.DraftFault.{DraftFault}
use Rattle.words.specs.Parsing.{Parse, ◌>>=◌, give}
use Rattle.words.specs.Words.{Cursor, Item}
use Rattle.words.specs.declared.faults.ReadFault.{ReadFault}
use Rattle.words.specs.declared.faults.ReadFault.TheVariants.{Long, Byte, Space, First, Form, Number, Fit, Full, Rest, NoMemory}

abbrev pub session_turn : Contents → Parse Contents
session_turn c = session_form >>= (λ rate. give (with_rate c rate))

abbrev pub unit_turn : Contents → Parse Contents
unit_turn c = unit_form c >>= (λ u. give (with_unit c u.0 u.1))

abbrev pub node_turn : Contents → Parse Contents
node_turn c = node_form c >>= (λ n. give (with_node c n))

abbrev pub line_turn : Contents → Item → Parse Contents
line_turn c w = line_form c w >>= (λ l. give (with_line c l))

abbrev pub wants_memory : ReadFault → Bool
wants_memory Long = false
wants_memory (Byte p) = false
wants_memory (Space p) = false
wants_memory (First p) = false
wants_memory (Form p) = false
wants_memory (Number p) = false
wants_memory (Fit p) = false
wants_memory (Full p) = false
wants_memory (Rest p) = false
wants_memory NoMemory = true

-- What reading answers to an addition that fits: it is made, or memory lacks.
abbrev pub for_memory : Result (Unit {0}) DraftFault → Result (Unit {0}) ReadFault
for_memory (Ok u) = Ok u
for_memory (Err e) = Err NoMemory

-- A call does what the definition says, or it wants memory where May holds.
abbrev pub DoesOrWants : {T X : Type 0} → (T → X) → Result T ReadFault → Cursor → Result (X × Cursor) ReadFault → Type 0 → Type 0
DoesOrWants f (Ok t) k spec May = spec ≡ Ok (f t, k)
DoesOrWants f (Err e) k spec May = (spec ≡ Err e) ⊎ ((e ≡ NoMemory) × May)
