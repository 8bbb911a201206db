-- Which texts are accepted: just the spellings of well-formed scripts.
use Rattle.std.specs.Prelude.{◌≡◌, ℕ, ◌≤◌, false, List, length, Ok, Err, Result}
use Rattle.turns.specs.Turns.{wants_memory}
use Rattle.session.specs.Contents.{Contents}
use Rattle.text.specs.Scripts.{Script, WellFormed, said, spelt}
use Rattle.words.specs.declared.faults.ReadFault.{ReadFault}

-- At most 16,384 bytes that spell a well-formed script.
abbrev pub Spells : List ℕ → Script → Type 0
Spells text s = WellFormed s × (length text ≤ 16384) × (text ≡ spelt s)

-- An accepted text spells a script that says what is held. A text that is refused, and not for want of memory, spells none.
abbrev pub Accepts : {T : Type 0} → Result T ReadFault → List ℕ → Contents → Type 0
Accepts (Ok t) text held = (s : Script) × Spells text s × (held ≡ said s)
Accepts (Err e) text held = wants_memory e ≡ false → (s : Script) → Spells text s → ⊥
