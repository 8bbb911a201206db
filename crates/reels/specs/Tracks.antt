-- What a reel holds, and the laws that every reel keeps.
use Rattle.std.specs.Prelude.{◌≡◌, ℕ, ◌<◌, ◌≤◌, map, pos}
use Rattle.frames.specs.Buses.{bus}
use Rattle.frames.specs.Samples.{silence}
use Rattle.frames.specs.declared.samples.Frame.{Frame}
use Rattle.frames.specs.declared.samples.Part.{Part}
use Rattle.std.specs.List.{range_with_len}

-- Each track's length, and its frame for each frame number from 0.
pub record Tracks : Type 0 where
  pub length_of : ℕ → ℕ
  pub frame_of : ℕ → ℕ → Frame

-- A track is at most 2,147,483,647 frames long, there are eight tracks, and from its length on a track is silent.
pub record ReelLaws (r : Tracks) : Type 0 where
  pub bounded : (track : ℕ) → r.length_of track ≤ 2147483647
  pub eight : (track : ℕ) → 7 < track → r.length_of track ≡ 0
  pub silent : (track n : ℕ) → r.length_of track ≤ n → r.frame_of track n ≡ silence

-- What a line at unity brings from a track at frame n.
abbrev pub at_unity : Tracks → ℕ → ℕ → Part
at_unity r n track = record { frame = r.frame_of track n; gain = pos 16384 }

-- The eight tracks at frame n, each at unity, added as a bus adds.
abbrev pub all_at_unity : Tracks → ℕ → Frame
all_at_unity r n = bus (map (at_unity r n) (range_with_len 0 8))
