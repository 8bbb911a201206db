-- What start, play and rewind answer: each check is a question, and the first no gives its fault.
use Rattle.std.specs.Prelude.{ℕ, ◌+◌, Bool, cond, List, length, Some, None, Ok, Err, Option, Result, ◌==◌, nat_le, nat_lt}
use Rattle.console.specs.Points.{console_plan}
use Rattle.console.specs.declared.consoles.Console.{Console}
use Rattle.console.specs.declared.faults.ConsoleFault.{ConsoleFault}
use Rattle.console.specs.declared.faults.ConsoleFault.TheVariants.{Patch, Play}
use Rattle.console.specs.declared.faults.PlayFault.TheVariants.{TapeLength, TooManyFrames, PastTheEnd}
use Rattle.frames.specs.declared.samples.Frame.{Frame}
use Rattle.patch.specs.Due.{due}
use Rattle.patch.specs.declared.faults.PatchFault.{PatchFault}
use Rattle.patch.specs.declared.faults.PatchFault.TheVariants.{NoNode}
use Rattle.session.specs.Plan.{Plan}
use Rattle.voices.specs.Meaning.{Meaning}

-- Where a check's answer is no, its fault; else what comes after.
abbrev pub check : Bool → ConsoleFault → Result Unit ConsoleFault → Result Unit ConsoleFault
check passed fault next = cond passed next (Err fault)

-- 22: has the tape exactly 16,384 frames?
abbrev pub tape_check : List Frame → Result Unit ConsoleFault → Result Unit ConsoleFault
tape_check tape next = check (length tape == 16384) (Play TapeLength) next

-- 19: does the console hold a node?
abbrev pub node_check : Console → Result Unit ConsoleFault → Result Unit ConsoleFault
node_check c next = check (nat_lt 0 (length (console_plan c).nodes)) (Patch NoNode) next

-- Rewind: 19, 22.
abbrev pub rewind_answer : Console → List Frame → Result Unit ConsoleFault
rewind_answer c tape = node_check c (tape_check tape (Ok tt))

-- Play of k frames: 19, 22; 23: is k at most 4,096? 24: does the position stay at most 1,073,741,824?
abbrev pub play_answer : Console → List Frame → ℕ → Result Unit ConsoleFault
play_answer c tape k =
    node_check c (tape_check tape (check (nat_le k 4096) (Play TooManyFrames) (check (nat_le (c.position + k) 1073741824) (Play PastTheEnd) (Ok tt))))

-- Start: 19, 20 and 21 of the patch, then 22.
abbrev pub after_patch : Option PatchFault → Result Unit ConsoleFault → Result Unit ConsoleFault
after_patch (Some fault) next = Err (Patch fault)
after_patch None next = next

abbrev pub start_answer : Plan → List (Meaning Frame) → List Frame → Result Unit ConsoleFault
start_answer p units tape = after_patch (due p units) (tape_check tape (Ok tt))

-- One value where a call succeeds, and another where it is refused.
abbrev pub by_answer : {A : Type 0} → Result Unit ConsoleFault → A → A → A
by_answer (Ok done) after before = after
by_answer (Err fault) after before = before
