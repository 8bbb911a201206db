-- What is accepted, and where a head is refused, as laws over the checks.
use Rattle.std.specs.Prelude.{◌≡◌, ℕ, ◌+◌, ◌*◌, ◌<◌, ◌≤◌, ◌⊎◌, List, length, take, drop, Some, None, ◌≢◌, slice_index}
use Rattle.session.specs.Held.{Held}
use Rattle.wave.specs.Bytes.{head_bytes}
use Rattle.wave.specs.Judged.{first_other, reel_fault}
use Rattle.wave.specs.Reel.{part_of}
use Rattle.wave.specs.declared.parts.TrackPart.{TrackPart}

-- A part that is taken for a file: it lies in the buffer, is as long as a file of some number of frames, and begins with
-- the head for that number at the rate.
pub record Taken (rate : ℕ) (bytes : List ℕ) (p : TrackPart) : Type 0 where
  pub ends : p.start + p.length ≤ length bytes
  pub frames : ℕ
  pub few : frames ≤ 1048576
  pub long : p.length ≡ 44 + 4 * frames
  pub head : take 44 (drop p.start bytes) ≡ head_bytes frames rate

-- Each part is empty or taken for a file.
abbrev pub AllTaken : ℕ → List ℕ → List TrackPart → Type 0
AllTaken rate bytes parts = (track : ℕ) → track < length parts → ((part_of parts track).length ≡ 0) ⊎ Taken rate bytes (part_of parts track)

-- A reel is made exactly where the session has a node and each part is empty or taken for a file.
unfoldable pub AcceptedExactly : Type 0
AcceptedExactly =
    (s : Held) (bytes : List ℕ) (parts : List TrackPart)
    → (reel_fault s bytes parts ≡ None → (0 < length s.plan.nodes) × AllTaken s.rate bytes parts)
    × (0 < length s.plan.nodes → AllTaken s.rate bytes parts → reel_fault s bytes parts ≡ None)

-- The first other byte: all bytes before it are as expected, and it is not.
unfoldable pub FirstIsFirst : Type 0
FirstIsFirst =
    (expected held : List ℕ) (k : ℕ) → first_other 0 expected held ≡ Some k
    → (k < length expected) × (take k held ≡ take k expected) × (k < length held → slice_index held k ≢ slice_index expected k)
