-- Patches: a whole delay of 0 or more for each line. How late nodes are under one, when one is aligned, and ours.
use Rattle.std.specs.Prelude.{◌≡◌, ℕ, ◌+◌, ◌-◌, ◌<◌, List, [], length, Some, None, Option}
use Rattle.frames.specs.declared.samples.Frame.{Frame}
use Rattle.racks.specs.Rack.{unit}
use Rattle.session.specs.Plan.{Plan, line, lines_into, node}
use Rattle.voices.specs.Kinds.{greatest}
use Rattle.voices.specs.Meaning.{Meaning}

-- How late a node's unit is; 0 without a unit.
abbrev pub unit_late : List (Meaning Frame) → Option ℕ → ℕ
unit_late rack None = 0
unit_late rack (Some s) = (unit rack s).late

-- A node's lateness: its arrival plus its unit's lateness.
abbrev pub lateness : Plan → List (Meaning Frame) → (ℕ → ℕ) → ℕ → ℕ
lateness p rack arrival v = arrival v + unit_late rack (node p v).unit

-- A patch is aligned, with these arrivals: at each node the start's lateness plus the delay is the same number for all
-- lines in, the node's arrival; it is 0 without lines.
pub record Aligned (p : Plan) (rack : List (Meaning Frame)) (delay : ℕ → ℕ) (arrival : ℕ → ℕ) : Type 0 where
  pub meets : (i : ℕ) → i < length p.lines → lateness p rack arrival (line p i).start + delay i ≡ arrival (line p i).end
  pub alone : (v : ℕ) → v < length p.nodes → lines_into p v ≡ [] → arrival v ≡ 0

-- The largest of some latenesses among the starts of all lines into node v; 0 without lines.
abbrev pub latest_start : Plan → (ℕ → ℕ) → ℕ → ℕ
latest_start p late v = greatest (λ i. late (line p i).start) (lines_into p v)

-- Our latenesses: each node's is the largest among the starts of its lines in, plus its unit's.
abbrev pub OurLatenesses : Plan → List (Meaning Frame) → (ℕ → ℕ) → Type 0
OurLatenesses p rack late = (v : ℕ) → v < length p.nodes → late v ≡ latest_start p late v + unit_late rack (node p v).unit

-- Our patch: a line's delay is the largest lateness among the starts of all lines into its end, less its own start's.
abbrev pub our_delay : Plan → (ℕ → ℕ) → ℕ → ℕ
our_delay p late i = latest_start p late (line p i).end - late (line p i).start

-- The nodes can be placed in an order in which every line's start comes before its end: each has a place below the
-- number of nodes.
pub record Ordered (p : Plan) (place : ℕ → ℕ) : Type 0 where
  pub inside : (v : ℕ) → v < length p.nodes → place v < length p.nodes
  pub before : (i : ℕ) → i < length p.lines → place (line p i).start < place (line p i).end
