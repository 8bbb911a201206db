-- Which first words may come, and where the reader is after them.
use Rattle.std.specs.Prelude.{Bool, true, false, cond, Some, None, codes, Option}
use Rattle.words.specs.Words.{Spelling, is_name}
use Rattle.text.specs.declared.stages.First.{First}
use Rattle.text.specs.declared.stages.First.TheVariants.{Session, Unit, Layer, Node, Line, End, Other}
use Rattle.text.specs.declared.stages.Stage.{Stage}
use Rattle.text.specs.declared.stages.Stage.TheVariants.{Head, Units, Nodes, Lines}

abbrev pub first_of : Spelling → First
first_of w =
    cond (is_name (codes "session") w) Session
    (cond (is_name (codes "unit") w) Unit
    (cond (is_name (codes "layer") w) Layer
    (cond (is_name (codes "node") w) Node
    (cond (is_name (codes "line") w) Line
    (cond (is_name (codes "end") w) End Other)))))

-- At the head only `session` may come; among units `unit`, `layer` and `node`; among nodes `node`, `line` and `end`;
-- among lines `line` and `end`.
abbrev pub next_stage : Stage → First → Option Stage
next_stage Head Session = Some Units
next_stage Head Unit = None
next_stage Head Layer = None
next_stage Head Node = None
next_stage Head Line = None
next_stage Head End = None
next_stage Head Other = None
next_stage Units Session = None
next_stage Units Unit = Some Units
next_stage Units Layer = Some Units
next_stage Units Node = Some Nodes
next_stage Units Line = None
next_stage Units End = None
next_stage Units Other = None
next_stage Nodes Session = None
next_stage Nodes Unit = None
next_stage Nodes Layer = None
next_stage Nodes Node = Some Nodes
next_stage Nodes Line = Some Lines
next_stage Nodes End = Some Nodes
next_stage Nodes Other = None
next_stage Lines Session = None
next_stage Lines Unit = None
next_stage Lines Layer = None
next_stage Lines Node = None
next_stage Lines Line = Some Lines
next_stage Lines End = Some Lines
next_stage Lines Other = None

abbrev pub is_end : First → Bool
is_end Session = false
is_end Unit = false
is_end Layer = false
is_end Node = false
is_end Line = false
is_end End = true
is_end Other = false
