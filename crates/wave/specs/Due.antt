-- Checks in order: the fault that is due, if any, and what a call then answers.
use Rattle.std.specs.Prelude.{Some, None, Ok, Err, Option, Result}

-- The first of two faults.
abbrev pub or_else : {X : Type 0} → Option X → Option X → Option X
or_else None later = later
or_else (Some fault) later = Some fault

-- The answer of a call that has nothing to say but its fault.
abbrev pub answered : {X : Type 0} → Option X → Result Unit X
answered None = Ok tt
answered (Some fault) = Err fault
