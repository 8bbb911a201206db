-- What a WAVE reel holds.
use Rattle.std.specs.Prelude.{ℕ, cond, List, nat_lt, slice_index_or}
use Rattle.frames.specs.Samples.{silence}
use Rattle.reels.specs.Tracks.{Tracks}
use Rattle.wave.specs.Parts.{part_frame, part_frames}
use Rattle.wave.specs.declared.parts.TrackPart.{TrackPart}

-- The part of track t; past the last, an empty one.
abbrev pub part_of : List TrackPart → ℕ → TrackPart
part_of parts track = slice_index_or parts track (record { start = 0; length = 0 })

-- Track t, of 0 to 7, has the frames of its part.
abbrev pub wave_tracks : List ℕ → List TrackPart → Tracks
wave_tracks bytes parts = record {
  length_of = λ track. cond (nat_lt track 8) (part_frames bytes (part_of parts track)) 0;
  frame_of = λ track n. cond (nat_lt track 8) (part_frame bytes (part_of parts track) n) silence;
}
