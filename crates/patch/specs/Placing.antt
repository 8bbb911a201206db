-- Placing: again and again the lowest-numbered node that is not placed and whose lines in all start at placed nodes.
use Rattle.std.specs.Prelude.{◌≡◌, ℕ, zero, suc, ◌<◌, Bool, true, false, cond, not, ◌&&◌, ◌||◌, List, [], ◌∷◌, ◌++◌, length, take, Some, None, Option, ◌==◌, slice_index}
use Rattle.session.specs.Plan.{KeepsRules, Plan, line, lines_into}
use Rattle.session.specs.declared.nodes.Line.{Line}
use Rattle.session.specs.declared.nodes.Node.{Node}
use Rattle.signals.specs.Patches.{Ordered}
use Rattle.std.specs.List.{find, range_with_len}

-- The plan of some nodes and lines.
abbrev pub plan_of : List Node → List Line → Plan
plan_of nodes lines = record { nodes = nodes; lines = lines }

-- Does v stand in a list?
abbrev pub stands : List ℕ → ℕ → Bool
stands [] v = false
stands (w ∷ ws) v = w == v || stands ws v

-- Do all of some numbers pass a test?
abbrev pub every : (ℕ → Bool) → List ℕ → Bool
every test [] = true
every test (v ∷ vs) = test v && every test vs

-- The lowest below n that passes.
abbrev pub lowest : (ℕ → Bool) → ℕ → Option ℕ
lowest test n = find test (range_with_len 0 n)

-- Node v can be placed after those of an order: it is not among them, and its lines in all start there.
abbrev pub can_follow : Plan → List ℕ → ℕ → Bool
can_follow p order v = not (stands order v) && every (λ i. stands order (line p i).start) (lines_into p v)

-- The same as a fact.
pub record Follows (p : Plan) (order : List ℕ) (v : ℕ) : Type 0 where
  pub new : stands order v ≡ false
  pub hears : (i : ℕ) → i < length p.lines → (line p i).end ≡ v → stands order (line p i).start ≡ true

-- An order, grown by at most so many nodes: each time by the lowest that can follow.
abbrev pub grown : Plan → ℕ → List ℕ → List ℕ
grown p zero order = order
grown p (suc rounds) order = elim (lowest (can_follow p order) (length p.nodes)) [ None ↦ order | Some v ↦ grown p rounds (order ++ v ∷ []) ]

-- The order in which the nodes are placed. A node that does not stand in it cannot be placed.
abbrev pub order_of : Plan → List ℕ
order_of p = grown p (length p.nodes) []

-- A node's place in an order.
abbrev pub place_in : List ℕ → ℕ → ℕ
place_in [] v = 0
place_in (w ∷ ws) v = cond (w == v) 0 (suc (place_in ws v))

-- The lowest node that stays unplaced.
abbrev pub lowest_unplaced : Plan → Option ℕ
lowest_unplaced p = lowest (λ v. not (stands (order_of p) v)) (length p.nodes)

-- All nodes are placed.
abbrev pub Placed : Plan → Type 0
Placed p = (v : ℕ) → v < length p.nodes → stands (order_of p) v ≡ true

-- The rule of placing: each node is the lowest that can follow those before it, and none can follow the last.
pub record FollowsRule (p : Plan) (order : List ℕ) : Type 0 where
  pub each : (k : ℕ) → k < length order → lowest (can_follow p (take k order)) (length p.nodes) ≡ Some (slice_index order k)
  pub none_left : lowest (can_follow p order) (length p.nodes) ≡ None

-- Our order follows the rule, and no other does.
abbrev pub OneOrder : Type 0
OneOrder = (p : Plan) → FollowsRule p (order_of p) × ((order : List ℕ) → FollowsRule p order → order ≡ order_of p)

-- Where all nodes are placed, every line's start comes before its end.
abbrev pub PlacedIsOrdered : Type 0
PlacedIsOrdered = (p : Plan) → KeepsRules p → Placed p → Ordered p (place_in (order_of p))

-- And where there is such an order at all, all nodes are placed.
abbrev pub OrderedIsPlaced : Type 0
OrderedIsPlaced = (p : Plan) (place : ℕ → ℕ) → KeepsRules p → Ordered p place → Placed p
