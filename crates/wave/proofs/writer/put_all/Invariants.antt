use Rattle.std.proofs.Common.{◌≡◌, ℕ, ◌*◌, ◌<◌, ◌++◌, get_or, take, drop}
use Rattle.frames.specs.Samples.{silence}
use Rattle.wave.proofs.writer.put_all.Given as goal
use Rattle.wave.specs.Back.{IsFrame}
use Rattle.wave.specs.Bytes.{frames_bytes}

abbrev pub invariant-loop-i : goal.invariant-loop-i
invariant-loop-i l =
    (l.out ≡ frames_bytes (take l.i l.frames) ++ drop (4 * l.i) l.initial.out)
    × ((k : ℕ) → k < l.i → IsFrame (get_or l.frames k silence))
