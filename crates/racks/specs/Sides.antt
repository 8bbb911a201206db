-- Where unit s of a pair of racks stands: in the first rack, in the second, or in neither.
use Rattle.std.specs.Prelude.{◌≡◌, ℕ, List, ◌++◌, take, Some, None, Option}
use Rattle.frames.specs.declared.samples.Frame.{Frame}
use Rattle.racks.specs.Rack.{no_unit, stepped, unit}
use Rattle.racks.specs.declared.sides.Side.{Side}
use Rattle.racks.specs.declared.sides.Side.TheVariants.{First, Second}
use Rattle.voices.specs.Meaning.{Meaning}

-- The list of a pair: the first's units and then the second's, cut to 16.
abbrev pub paired : List (Meaning Frame) → List (Meaning Frame) → List (Meaning Frame)
paired us vs = take 16 (us ++ vs)

-- Unit s of the pair is that unit, and a step of it is a step of that unit in its own rack.
abbrev pub Stands : List (Meaning Frame) → List (Meaning Frame) → ℕ → Option Side → Type 0
Stands us vs s (Some (First i)) = (unit (paired us vs) s ≡ unit us i) × ((f : Frame) → stepped (paired us vs) s f ≡ paired (stepped us i f) vs)
Stands us vs s (Some (Second i)) = (unit (paired us vs) s ≡ unit vs i) × ((f : Frame) → stepped (paired us vs) s f ≡ paired us (stepped vs i f))
Stands us vs s None = (unit (paired us vs) s ≡ no_unit) × ((f : Frame) → stepped (paired us vs) s f ≡ paired us vs)
