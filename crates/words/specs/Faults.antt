-- The number and the places of each fault.
use Rattle.std.specs.Prelude.{ℕ}
use Rattle.frames.specs.declared.refusals.Layer.TheVariants.{Text}
use Rattle.frames.specs.declared.refusals.Refusal.{Refusal}
use Rattle.words.specs.declared.faults.Place.{Place}
use Rattle.words.specs.declared.faults.ReadFault.{ReadFault}
use Rattle.words.specs.declared.faults.ReadFault.TheVariants.{Long, Byte, Space, First, Form, Number, Fit, Full, Rest, NoMemory}

abbrev pub at_place : ℕ → Place → Refusal
at_place number p = record { number = number; layer = Text; first = p.line; second = p.column }

abbrev pub refusal : ReadFault → Refusal
refusal Long = record { number = 1; layer = Text; first = 0; second = 0 }
refusal (Byte p) = at_place 2 p
refusal (Space p) = at_place 3 p
refusal (First p) = at_place 4 p
refusal (Form p) = at_place 5 p
refusal (Number p) = at_place 6 p
refusal (Fit p) = at_place 7 p
refusal (Full p) = at_place 8 p
refusal (Rest p) = at_place 9 p
refusal NoMemory = record { number = 0; layer = Text; first = 0; second = 0 }
