-- The tape: 1,024 frames behind each of 16 nodes, used round and round.
use Rattle.std.specs.Prelude.{ℕ, ◌+◌, ◌-◌, ◌*◌, ◌%◌, List, replicate, ℤ, pos, negsuc, slice_index_or}
use Rattle.frames.specs.Samples.{silence}
use Rattle.frames.specs.declared.samples.Frame.{Frame}

-- A frame number modulo 1,024, from 0 to 1,023, of a negative one too.
abbrev pub round : ℤ → ℕ
round (pos n) = n % 1024
round (negsuc n) = 1023 - n % 1024

-- Where node v's frame n stands on the tape.
abbrev pub slot : ℕ → ℤ → ℕ
slot v n = 1024 * v + round n

-- What stands there.
abbrev pub on_tape : List Frame → ℕ → ℤ → Frame
on_tape tape v n = slice_index_or tape (slot v n) silence

-- The whole tape, silent.
unfoldable pub silent_tape : List Frame
silent_tape = replicate 16384 silence
