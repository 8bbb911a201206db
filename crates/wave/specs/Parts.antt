-- The parts of a buffer that hold WAVE files, and what a reel reads of them.
use Rattle.std.specs.Prelude.{ℕ, ◌+◌, ◌-◌, ◌*◌, ◌/◌, Bool, cond, ◌&&◌, List, length, ℤ, pos, negsuc, Some, None, Option, ◌==◌, nat_le, nat_lt, slice_index}
use Rattle.frames.specs.Samples.{silence}
use Rattle.frames.specs.declared.samples.Frame.{Frame}
use Rattle.std.specs.Option.{unwrap_or}
use Rattle.wave.specs.declared.parts.TrackPart.{TrackPart}

-- A part lies in a buffer of a size when it ends there.
abbrev pub inside : ℕ → TrackPart → Bool
inside size p = nat_le (p.start + p.length) size

-- A file of n frames, at most 1,048,576, is 44 + 4n bytes long.
abbrev pub frames_in : ℕ → ℕ
frames_in size = (size - 44) / 4

abbrev pub is_file_length : ℕ → Bool
is_file_length size = size == 44 + 4 * frames_in size && nat_le (frames_in size) 1048576

abbrev pub frame_count : ℕ → Option ℕ
frame_count size = cond (is_file_length size) (Some (frames_in size)) None

-- A sample of 16 bits: from 32,768 on they stand for a negative one.
abbrev pub signed : ℕ → ℤ
signed w = cond (nat_lt w 32768) (pos w) (negsuc (65535 - w))

-- A sample of two bytes, the lower first.
abbrev pub sample_of : ℕ → ℕ → ℤ
sample_of low high = signed (low + 256 * high)

-- The frame whose bytes stand at a place: left, then right.
abbrev pub frame_at : List ℕ → ℕ → Frame
frame_at bytes at = record {
  left = sample_of (slice_index bytes at) (slice_index bytes (at + 1));
  right = sample_of (slice_index bytes (at + 2)) (slice_index bytes (at + 3));
}

-- How many frames a part gives: those of its file where it lies in the buffer and is as long as a file, else none.
abbrev pub part_frames : List ℕ → TrackPart → ℕ
part_frames bytes p = cond (inside (length bytes) p) (unwrap_or (frame_count p.length) 0) 0

-- A part's frame n stands at byte 44 + 4n of it; past the last there is silence.
abbrev pub part_frame : List ℕ → TrackPart → ℕ → Frame
part_frame bytes p n = cond (nat_lt n (part_frames bytes p)) (frame_at bytes (p.start + 44 + 4 * n)) silence
