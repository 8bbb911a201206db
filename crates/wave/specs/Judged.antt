-- What is asked of a buffer and its parts, in order, and the first fault that is due.
use Rattle.std.specs.Prelude.{ℕ, ◌+◌, cond, List, [], ◌∷◌, length, drop, Some, None, Option, ◌==◌}
use Rattle.session.specs.Held.{Held}
use Rattle.wave.specs.Bytes.{head_bytes}
use Rattle.wave.specs.Due.{or_else}
use Rattle.wave.specs.Parts.{frames_in, inside, is_file_length}
use Rattle.wave.specs.declared.parts.TrackPart.{TrackPart}
use Rattle.wave.specs.declared.reader.WaveFault.{WaveFault}
use Rattle.wave.specs.declared.reader.WaveFault.TheVariants.{NoNode, Outside, Length, Head}

-- The place, counted from k, of the first byte that is not as expected. A missing byte is another one.
abbrev pub first_other : ℕ → List ℕ → List ℕ → Option ℕ
first_other k [] held = None
first_other k (x ∷ expected) [] = Some k
first_other k (x ∷ expected) (y ∷ held) = cond (y == x) (first_other (k + 1) expected held) (Some k)

abbrev pub head_fault : ℕ → Option ℕ → Option WaveFault
head_fault track None = None
head_fault track (Some byte) = Some (Head track byte)

-- The fault of one track: an empty part has none; else the part lies in the buffer, is as long as a file, and begins with
-- the head for its own number of frames at the session's rate.
abbrev pub part_fault : ℕ → List ℕ → ℕ → TrackPart → Option WaveFault
part_fault rate bytes track p =
    cond (p.length == 0) None
    (cond (inside (length bytes) p)
    (cond (is_file_length p.length)
    (head_fault track (first_other 0 (head_bytes (frames_in p.length) rate) (drop p.start bytes)))
    (Some (Length track)))
    (Some (Outside track)))

-- The first fault of the parts of track k, k + 1 and so on.
abbrev pub parts_fault : ℕ → List ℕ → ℕ → List TrackPart → Option WaveFault
parts_fault rate bytes k [] = None
parts_fault rate bytes k (p ∷ parts) = or_else (part_fault rate bytes k p) (parts_fault rate bytes (k + 1) parts)

-- The fault that is due when a reel is made for a session.
abbrev pub reel_fault : Held → List ℕ → List TrackPart → Option WaveFault
reel_fault s bytes parts = cond (length s.plan.nodes == 0) (Some NoNode) (parts_fault s.rate bytes 0 parts)
