-- What the writer's calls answer, and what they leave in the buffer.
use Rattle.std.specs.Prelude.{ℕ, cond, List, length, Some, None, Option, ◌==◌, nat_le}
use Rattle.session.specs.Held.{Held}
use Rattle.wave.specs.Due.{or_else}
use Rattle.wave.specs.declared.writer.WriteFault.{WriteFault}
use Rattle.wave.specs.declared.writer.WriteFault.TheVariants.{NoNode, TooLong, BufferLength}

-- A session with a node has files of at most 1,048,576 frames.
abbrev pub frames_fault : Held → ℕ → Option WriteFault
frames_fault s n = cond (length s.plan.nodes == 0) (Some NoNode) (cond (nat_le n 1048576) None (Some TooLong))

-- The buffer is exactly as long as the bytes.
abbrev pub size_fault : ℕ → ℕ → Option WriteFault
size_fault size needed = cond (size == needed) None (Some BufferLength)

-- The fault that is due when bytes of n frames, as many as are needed, are written into a buffer of a size.
abbrev pub write_fault : Held → ℕ → ℕ → ℕ → Option WriteFault
write_fault s n size needed = or_else (frames_fault s n) (size_fault size needed)

-- What the buffer holds after a call: the bytes, or on a refusal what it held.
abbrev pub left_in : Option WriteFault → List ℕ → List ℕ → List ℕ
left_in None bytes was = bytes
left_in (Some fault) bytes was = was
