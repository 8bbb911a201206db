-- Where a history stands: the console, what the rack's units mean, and the tape.
use Rattle.std.specs.Prelude.{List}
use Rattle.console.specs.Desks.{desk_plan}
use Rattle.console.specs.declared.consoles.Console.{Console}
use Rattle.frames.specs.declared.samples.Frame.{Frame}
use Rattle.patch.specs.declared.patches.Patch.{Patch}
use Rattle.session.specs.Plan.{Plan}
use Rattle.voices.specs.Meaning.{Meaning}

pub record Point : Type 0 where
  pub console : Console
  pub units : List (Meaning Frame)
  pub tape : List Frame

abbrev pub point : Console → List (Meaning Frame) → List Frame → Point
point console units tape = record { console = console; units = units; tape = tape }

-- The nodes and lines of the session that a console holds, and its patch.
abbrev pub console_plan : Console → Plan
console_plan c = desk_plan c.desk

abbrev pub console_patch : Console → Patch
console_patch c = c.desk.patch
