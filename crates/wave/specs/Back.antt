-- What is written is read again.
use Rattle.std.specs.Prelude.{◌≡◌, ℕ, ◌+◌, ◌<◌, ◌≤◌, ◌⊎◌, List, length, take, drop, replicate, ℤ, pos, negsuc, ◌≤ℤ◌, None, slice_index_or, slice_set}
use Rattle.frames.specs.Samples.{silence}
use Rattle.frames.specs.declared.samples.Frame.{Frame}
use Rattle.session.specs.Held.{Held}
use Rattle.wave.specs.Bytes.{file_bytes}
use Rattle.wave.specs.Judged.{reel_fault}
use Rattle.wave.specs.Reel.{part_of, wave_tracks}
use Rattle.wave.specs.declared.parts.TrackPart.{TrackPart}

-- Samples go from −32,768 to 32,767.
abbrev pub IsSample : ℤ → Type 0
IsSample z = (negsuc 32767 ≤ℤ z) × (z ≤ℤ pos 32767)

abbrev pub IsFrame : Frame → Type 0
IsFrame f = IsSample f.left × IsSample f.right

abbrev pub AllFrames : List Frame → Type 0
AllFrames fs = (i : ℕ) → i < length fs → IsFrame (slice_index_or fs i silence)

-- A part that holds the file of some frames at a rate.
pub record HoldsFile (rate : ℕ) (bytes : List ℕ) (p : TrackPart) (fs : List Frame) : Type 0 where
  pub few : length fs ≤ 1048576
  pub samples : AllFrames fs
  pub ends : p.start + p.length ≤ length bytes
  pub file : take p.length (drop p.start bytes) ≡ file_bytes rate fs

-- A track of these parts gives exactly these frames, and then silence.
abbrev pub Gives : List ℕ → List TrackPart → ℕ → List Frame → Type 0
Gives bytes parts track fs = ((wave_tracks bytes parts).length_of track ≡ length fs) × ((i : ℕ) → (wave_tracks bytes parts).frame_of track i ≡ slice_index_or fs i silence)

-- For every session with a node and every buffer whose parts are empty or hold files at the session's rate, however they
-- lie: the reel is made, and each track with a file gives the frames of the file.
unfoldable pub FilesReadBack : Type 0
FilesReadBack =
    (s : Held) (bytes : List ℕ) (parts : List TrackPart) → 0 < length s.plan.nodes
    → ((track : ℕ) → track < length parts → ((part_of parts track).length ≡ 0) ⊎ ((fs : List Frame) × HoldsFile s.rate bytes (part_of parts track) fs))
    → (reel_fault s bytes parts ≡ None)
    × ((track : ℕ) (fs : List Frame) → track < 8 → HoldsFile s.rate bytes (part_of parts track) fs → Gives bytes parts track fs)

-- Eight parts, all empty but for one track's: the first bytes of the buffer.
abbrev pub alone : ℕ → ℕ → List TrackPart
alone track size = slice_set (replicate 8 (record { start = 0; length = 0 })) track (record { start = 0; length = size })

-- A buffer taken whole as one track's part is accepted, and the track gives these frames.
unfoldable pub ReadBack : Held → List ℕ → List Frame → Type 0
ReadBack s bytes fs =
    (track : ℕ) → track < 8 → (reel_fault s bytes (alone track (length bytes)) ≡ None) × Gives bytes (alone track (length bytes)) track fs

-- For every session with a node and every list of at most 1,048,576 frames: the head and the frames, one after the other,
-- are read back.
unfoldable pub RoundTrip : Type 0
RoundTrip =
    (s : Held) (fs : List Frame) → 0 < length s.plan.nodes → length fs ≤ 1048576 → AllFrames fs → ReadBack s (file_bytes s.rate fs) fs
