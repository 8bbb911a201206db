-- What playing does, frame by frame and node by node, to any rack and any tape.
use Rattle.std.specs.Prelude.{ℕ, zero, suc, ◌+◌, List, [], ◌∷◌, pos, Some, None, fold, Option, slice_set}
use Rattle.frames.specs.declared.samples.Frame.{Frame}
use Rattle.playing.specs.Tape.{on_tape, slot}
use Rattle.racks.specs.Rack.{answer_of, stepped}
use Rattle.reels.specs.Tracks.{Tracks}
use Rattle.session.specs.Plan.{Plan, node}
use Rattle.signals.specs.Signals.{input}
use Rattle.voices.specs.Meaning.{Meaning}

-- The rack's units and the tape.
pub record Deck : Type 0 where
  pub units : List (Meaning Frame)
  pub tape : List Frame

abbrev pub deck : List (Meaning Frame) → List Frame → Deck
deck units tape = record { units = units; tape = tape }

-- What node v hears at frame n: its reel frame, or what a bus makes of the frames that its lines read from the tape, each
-- `delay` frames before.
abbrev pub hears : Plan → (ℕ → ℕ) → Tracks → List Frame → ℕ → ℕ → Frame
hears p delay reel tape n v = input p reel delay (on_tape tape) v (node p v).source (pos n)

-- What a node gives, by its unit if it has one, and the rack after that.
abbrev pub given : List (Meaning Frame) → Option ℕ → Frame → Frame
given units None f = f
given units (Some s) f = answer_of units s f

abbrev pub moved : List (Meaning Frame) → Option ℕ → Frame → List (Meaning Frame)
moved units None f = units
moved units (Some s) f = stepped units s f

-- The work on node v at frame n: its unit, if any, hears what the node hears, and what the node gives goes to the tape.
abbrev pub node_work : Plan → (ℕ → ℕ) → Tracks → ℕ → Deck → ℕ → Deck
node_work p delay reel n d v = record {
  units = moved d.units (node p v).unit (hears p delay reel d.tape n v);
  tape = slice_set d.tape (slot v (pos n)) (given d.units (node p v).unit (hears p delay reel d.tape n v));
}

-- The work on frame n: on each node, in the order placed.
abbrev pub frame_work : Plan → List ℕ → (ℕ → ℕ) → Tracks → ℕ → Deck → Deck
frame_work p order delay reel n d = fold (node_work p delay reel n) d order

-- The deck after k frames from frame n on, and node 0's frames.
abbrev pub after_frames : Plan → List ℕ → (ℕ → ℕ) → Tracks → ℕ → ℕ → Deck → Deck
after_frames p order delay reel zero n d = d
after_frames p order delay reel (suc k) n d = after_frames p order delay reel k (n + 1) (frame_work p order delay reel n d)

abbrev pub frames_out : Plan → List ℕ → (ℕ → ℕ) → Tracks → ℕ → ℕ → Deck → List Frame
frames_out p order delay reel zero n d = []
frames_out p order delay reel (suc k) n d =
    on_tape (frame_work p order delay reel n d).tape 0 (pos n) ∷ frames_out p order delay reel k (n + 1) (frame_work p order delay reel n d)
