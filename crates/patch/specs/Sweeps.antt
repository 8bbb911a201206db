-- Sweeps: values that go along the lines of a plan.
use Rattle.std.specs.Prelude.{◌≡◌, ℕ, ◌<◌, ◌≤◌, List, [], ◌∷◌, map, length, slice_index, slice_index_or}
use Rattle.patch.specs.Placing.{place_in, plan_of}
use Rattle.session.specs.Plan.{KeepsRules, Plan, line, lines_into}
use Rattle.session.specs.declared.nodes.Line.{Line}
use Rattle.signals.specs.Patches.{Ordered}

-- A kind of value: the start value, how two values join, and what each node makes of a value.
pub record Kind (X : Type 0) : Type 0 where
  pub start : X
  pub join : X → X → X
  pub step : ℕ → X → X

-- The laws of a join: it does not matter in which order values are joined, or how often.
pub record JoinLaws {X : Type 0} (join : X → X → X) : Type 0 where
  pub associates : (x y z : X) → join (join x y) z ≡ join x (join y z)
  pub commutes : (x y : X) → join x y ≡ join y x
  pub repeats : (x : X) → join x x ≡ x

-- A value joined with some more.
abbrev pub joined_on : {X : Type 0} → (X → X → X) → X → List X → X
joined_on join x [] = x
joined_on join x (y ∷ ys) = joined_on join (join x y) ys

-- Some values joined; without any, the start value.
abbrev pub joined : {X : Type 0} → Kind X → List X → X
joined kind [] = kind.start
joined kind (x ∷ xs) = joined_on kind.join x xs

-- What node v makes of the joined values of its lines' starts.
abbrev pub swept : {X : Type 0} → Kind X → Plan → (ℕ → X) → ℕ → X
swept kind p value v = kind.step v (joined kind (map (λ i. value (line p i).start) (lines_into p v)))

-- The values are those of a sweep: each declared node has what it makes of the values before it.
abbrev pub Swept : {X : Type 0} → Kind X → Plan → (ℕ → X) → Type 0
Swept kind p value = (v : ℕ) → v < length p.nodes → value v ≡ swept kind p value v

-- The values by node number, of a list of them.
abbrev pub by_node : {X : Type 0} → Kind X → List X → ℕ → X
by_node kind values v = slice_index_or values v kind.start

-- At most 48 lines, between nodes below 16.
pub record Fit (lines : List Line) : Type 0 where
  pub few : length lines ≤ 48
  pub starts : (i : ℕ) → i < length lines → (line (plan_of [] lines) i).start < 16
  pub ends : (i : ℕ) → i < length lines → (line (plan_of [] lines) i).end < 16

-- Nodes below 16, each once and after the starts of all lines into it.
pub record Along (lines : List Line) (order : List ℕ) : Type 0 where
  pub small : (k : ℕ) → k < length order → slice_index order k < 16
  pub once : (k : ℕ) → k < length order → place_in order (slice_index order k) ≡ k
  pub after : (k i : ℕ) → k < length order → i < length lines → (line (plan_of [] lines) i).end ≡ slice_index order k
      → place_in order (line (plan_of [] lines) i).start < k

-- The first k nodes of an order have what they make of the values before them.
abbrev pub SweptTo : {X : Type 0} → Kind X → List Line → List ℕ → ℕ → (ℕ → X) → Type 0
SweptTo kind lines order k value = (j : ℕ) → j < k → value (slice_index order j) ≡ swept kind (plan_of [] lines) value (slice_index order j)

-- A plan whose nodes can all be placed has one sweep at most.
abbrev pub OneSweep : Type 0 → Type 0
OneSweep X = (kind : Kind X) (p : Plan) (place : ℕ → ℕ) → KeepsRules p → Ordered p place
    → (a b : ℕ → X) → Swept kind p a → Swept kind p b → (v : ℕ) → v < length p.nodes → a v ≡ b v
