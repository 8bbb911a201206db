-- A whole line, from its first word on.
use Rattle.std.specs.Prelude.{Bool, true, false, not, ◌&&◌, ◌⊎◌}
use Rattle.forms.specs.Forms.{layer_form}
use Rattle.turns.specs.Turns.{line_turn, node_turn, session_turn, unit_turn}
use Rattle.session.specs.Contents.{Contents}
use Rattle.session.specs.Drafts.{LinesFull, NodesFull, draft}
use Rattle.session.specs.declared.sessions.drafts.Draft.{Draft}
use Rattle.text.specs.declared.reader.Reader.{Reader}
use Rattle.text.specs.Stages.{first_of, is_end, next_stage}
use Rattle.text.specs.declared.stages.First.{First}
use Rattle.text.specs.declared.stages.First.TheVariants.{Session, Unit, Layer, Node, Line, End, Other}
use Rattle.text.specs.declared.stages.Stage.{Stage}
use Rattle.text.specs.declared.stages.Stage.TheVariants.{Head, Units, Nodes, Lines}
use Rattle.words.specs.Parsing.{Parse, ◌>>=◌, ◌>>◌, asked, give, no_more, refuse, word}
use Rattle.words.specs.Words.{Item}
use Rattle.words.specs.declared.faults.ReadFault.TheVariants.{First as NotDue}

-- The line that begins with this first word.
abbrev pub turn : First → Contents → Item → Parse Contents
turn Session c w = session_turn c
turn Unit c w = unit_turn c
turn Layer c w = layer_form c
turn Node c w = node_turn c
turn Line c w = line_turn c w
turn End c w = no_more >> give c
turn Other c w = refuse (NotDue w.place)

-- The room for what a line adds is used up. Only node lines and line lines add, so no other wants memory.
abbrev pub RoomUsed : First → Draft → Type 0
RoomUsed Session d = ⊥
RoomUsed Unit d = ⊥
RoomUsed Layer d = ⊥
RoomUsed Node d = NodesFull d
RoomUsed Line d = LinesFull d
RoomUsed End d = ⊥
RoomUsed Other d = ⊥

abbrev pub SomeFull : Draft → Type 0
SomeFull d = NodesFull d ⊎ LinesFull d

-- After a line: where the reader is, what is held, and whether the text has ended.
pub record Turned : Type 0 where
  pub stage : Stage
  pub held : Contents
  pub ended : Bool

-- What the reader makes of a line: true at the end.
abbrev pub turned : Reader → Bool → Turned
turned r ended = record { stage = r.stage; held = draft r.draft; ended = ended }

-- A whole line.
abbrev pub whole_turn : Stage → Contents → Parse Turned
whole_turn stage c =
    word >>= (λ w. asked (next_stage stage (first_of w.word)) (NotDue w.place)
    >>= (λ next. turn (first_of w.word) c w >>= (λ d. give (record { stage = next; held = d; ended = is_end (first_of w.word) }))))

-- Whether the reader is among nodes or lines and goes on: it has just held a node or a line.
abbrev pub late : Stage → Bool
late Head = false
late Units = false
late Nodes = true
late Lines = true

abbrev pub has_held : Turned → Bool
has_held t = late t.stage && not t.ended
