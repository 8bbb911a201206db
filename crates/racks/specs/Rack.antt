-- What a rack means: the list of its units' meanings, by number from 0, and the laws that every rack keeps.
use Rattle.std.specs.Prelude.{ℕ, ◌<◌, ◌≤◌, List, [], ◌∷◌, length, replicate, slice_index_or, slice_set}
use Rattle.frames.specs.Samples.{silence}
use Rattle.frames.specs.declared.samples.Frame.{Frame}
use Rattle.voices.specs.Meaning.{Meaning, Lawful}

-- What a number that the rack lacks stands for: it is not late, and its voice is silence.
abbrev pub no_unit : Meaning Frame
no_unit = record { late = 0; voice = λ x. replicate (length x) silence; present = λ x. replicate (length x) silence }

-- Unit s of a rack.
abbrev pub unit : List (Meaning Frame) → ℕ → Meaning Frame
unit units s = slice_index_or units s no_unit

-- At most 16 units, each lawful.
pub record RackLaws (units : List (Meaning Frame)) : Type 0 where
  pub few : length units ≤ 16
  pub each : (s : ℕ) → s < length units → Lawful silence (unit units s)

-- What a unit answers to one frame, as it is now: the first frame of its present voice.
abbrev pub first_frame : List Frame → Frame
first_frame [] = silence
first_frame (f ∷ fs) = f

abbrev pub answer : Meaning Frame → Frame → Frame
answer m f = first_frame (m.present (f ∷ []))

-- A unit when it has heard a frame: what it makes of a list is what it made of the frame and then the list, less the
-- first answer.
abbrev pub rest_of : List Frame → List Frame
rest_of [] = []
rest_of (f ∷ fs) = fs

abbrev pub heard_by : Meaning Frame → Frame → Meaning Frame
heard_by m f = record { late = m.late; voice = m.voice; present = λ x. rest_of (m.present (f ∷ x)) }

-- A unit at rest: its present voice is its voice.
abbrev pub rested : Meaning Frame → Meaning Frame
rested m = record { late = m.late; voice = m.voice; present = m.voice }

-- A rack when unit s has heard a frame: no other unit changes, and nothing does where the rack lacks it.
abbrev pub stepped : List (Meaning Frame) → ℕ → Frame → List (Meaning Frame)
stepped units s f = slice_set units s (heard_by (unit units s) f)

-- What unit s answers to a frame; silence where the rack lacks it.
abbrev pub answer_of : List (Meaning Frame) → ℕ → Frame → Frame
answer_of units s f = answer (unit units s) f
