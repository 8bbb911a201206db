-- Three sessions that show what placing and sweeps give.
use Rattle.std.specs.Prelude.{◌≡◌, ℕ, List, [], ◌∷◌, pos, Some, None, Option}
use Rattle.frames.specs.declared.samples.Frame.{Frame}
use Rattle.patch.specs.Flows.{feeders_kind}
use Rattle.patch.specs.Placing.{lowest_unplaced, order_of}
use Rattle.patch.specs.Sweeps.{Swept}
use Rattle.racks.specs.Rack.{unit}
use Rattle.session.specs.Plan.{Plan}
use Rattle.session.specs.declared.nodes.Line.{Line}
use Rattle.session.specs.declared.nodes.Node.{Node}
use Rattle.session.specs.declared.nodes.Source.TheVariants.{Track, Bus}
use Rattle.signals.specs.Patches.{our_delay, OurLatenesses}
use Rattle.voices.specs.Meaning.{Meaning}

abbrev pub bus : Option ℕ → Node
bus unit = record { source = Bus; unit = unit }

abbrev pub from_to : ℕ → ℕ → Line
from_to start end = record { start = start; end = end; gain = pos 16384 }

-- Track 1 with unit 0 goes to the output; track 2 goes there by way of bus 3, which has unit 1.
abbrev pub two_ways : Plan
two_ways = record {
  nodes = bus None ∷ record { source = Track 0; unit = Some 0 } ∷ record { source = Track 1; unit = None } ∷ bus (Some 1) ∷ [];
  lines = from_to 1 0 ∷ from_to 2 3 ∷ from_to 3 0 ∷ [];
}

-- Nodes 1 and 2 hear each other, and the output hears node 2.
abbrev pub ring : Plan
ring = record { nodes = bus None ∷ bus None ∷ bus None ∷ []; lines = from_to 1 2 ∷ from_to 2 1 ∷ from_to 2 0 ∷ [] }

-- Two lines side by side.
abbrev pub side_by_side : Plan
side_by_side = record { nodes = bus None ∷ bus None ∷ []; lines = from_to 1 0 ∷ from_to 1 0 ∷ [] }

pub record Worked : Type 0 where
  pub in_order : order_of two_ways ≡ 1 ∷ 2 ∷ 3 ∷ 0 ∷ []
  -- with units that are 40 and 10 late, the latenesses are 40, 40, 0 and 10, and the delays 0, 0 and 30
  pub late : (rack : List (Meaning Frame)) (late : ℕ → ℕ) → (unit rack 0).late ≡ 40 → (unit rack 1).late ≡ 10 → OurLatenesses two_ways rack late
      → (late 0 ≡ 40) × (late 1 ≡ 40) × (late 2 ≡ 0) × (late 3 ≡ 10)
      × (our_delay two_ways late 0 ≡ 0) × (our_delay two_ways late 1 ≡ 0) × (our_delay two_ways late 2 ≡ 30)
  -- a ring and what hears it stay unplaced
  pub unplaced : (order_of ring ≡ []) × (lowest_unplaced ring ≡ Some 0)
  -- the output is fed by both nodes
  pub fed : (sets : ℕ → ℕ) → Swept feeders_kind side_by_side sets → (sets 0 ≡ 3) × (sets 1 ≡ 2)
