-- Playing gives the signals under the patch.
use Rattle.std.specs.Prelude.{◌≡◌, ℕ, ◌+◌, ◌<◌, ◌≤◌, List, ◌++◌, length, pos, slice_index}
use Rattle.frames.specs.declared.samples.Frame.{Frame}
use Rattle.playing.specs.Tape.{silent_tape}
use Rattle.playing.specs.Work.{after_frames, frames_out}
use Rattle.racks.specs.Rack.{RackLaws, unit}
use Rattle.reels.specs.Tracks.{Tracks}
use Rattle.session.specs.Plan.{KeepsRules, Plan, line}
use Rattle.signals.specs.Signals.{Signal, span, Under}
use Rattle.voices.specs.Meaning.{Meaning}

-- An order of the nodes: each declared node stands in it once, at its place, and every line's start stands before its end.
pub record InOrder (p : Plan) (order : List ℕ) (place : ℕ → ℕ) : Type 0 where
  pub whole : length order ≡ length p.nodes
  pub stands : (v : ℕ) → v < length p.nodes → (place v < length order) × (slice_index order (place v) ≡ v)
  pub once : (k : ℕ) → k < length order → (slice_index order k < length p.nodes) × (place (slice_index order k) ≡ k)
  pub before : (i : ℕ) → i < length p.lines → place (line p i).start < place (line p i).end

-- Every unit is at rest.
abbrev pub AtRest : List (Meaning Frame) → Type 0
AtRest units = (s : ℕ) → (unit units s).present ≡ (unit units s).voice

-- From rest and a silent tape, the frames that come out, in plays of any lengths one after the other, are node 0's signal
-- under the patch from frame 0 on.
abbrev pub PlaysThePatch : Type 0
PlaysThePatch = (p : Plan) (units : List (Meaning Frame)) (reel : Tracks) (order : List ℕ) (place delay : ℕ → ℕ) (x : ℕ → Signal Frame)
    → KeepsRules p → RackLaws units → AtRest units → InOrder p order place → 0 < length p.nodes
    → ((i : ℕ) → i < length p.lines → delay i ≤ 1023) → Under p units reel delay x
    → (j k : ℕ) → frames_out p order delay reel j 0 (record { units = units; tape = silent_tape })
    ++ frames_out p order delay reel k j (after_frames p order delay reel j 0 (record { units = units; tape = silent_tape }))
    ≡ span (x 0) (pos 0) (j + k)
