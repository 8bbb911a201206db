-- A draft by what it holds, and when an addition fits.
use Rattle.std.specs.Prelude.{◌≡◌, ◌≤◌, Bool, true, false, Ok, Err, vec_items, vec_len, vec_capacity, Result}
use Rattle.session.specs.Contents.{Contents, contents}
use Rattle.session.specs.Held.{Held}
use Rattle.session.specs.declared.sessions.drafts.Draft.{Draft}
use Rattle.session.specs.declared.sessions.drafts.DraftFault.{DraftFault}
use Rattle.session.specs.declared.sessions.drafts.DraftFault.TheVariants.{Unfit, NoMemory}

abbrev pub drafted : Draft → Held
drafted d = record { rate = d.rate; plan = record { nodes = vec_items d.nodes; lines = vec_items d.lines }; settings = d.settings }

abbrev pub draft : Draft → Contents
draft d = contents (drafted d)

-- An addition is made or wants memory where it fits, and is unfit where it does not.
abbrev pub AnswersFit : {X : Type 0} → Result X DraftFault → Bool → Type 0
AnswersFit (Ok x) fits = fits ≡ true
AnswersFit (Err Unfit) fits = fits ≡ false
AnswersFit (Err NoMemory) fits = fits ≡ true

-- The room for nodes, or for lines, is used up, so that one more wants memory.
abbrev pub NodesFull : Draft → Type 0
NodesFull d = vec_capacity d.nodes ≤ vec_len d.nodes

abbrev pub LinesFull : Draft → Type 0
LinesFull d = vec_capacity d.lines ≤ vec_len d.lines
