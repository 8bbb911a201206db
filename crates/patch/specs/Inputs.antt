-- Lines by their ends.
use Rattle.std.specs.Prelude.{◌≡◌, ℕ, ◌<◌, List, [], ◌∷◌, length, Some, None, Option, slice_index_or}
use Rattle.patch.specs.Placing.{plan_of}
use Rattle.patch.specs.declared.inputs.Inputs.{Inputs}
use Rattle.session.specs.Plan.{lines_into}
use Rattle.session.specs.declared.nodes.Line.{Line}

-- A node's first line in, and the next one after a line.
abbrev pub first_into : Inputs → ℕ → Option ℕ
first_into r v = slice_index_or r.first v None

abbrev pub next_after : Inputs → ℕ → Option ℕ
next_after r i = slice_index_or r.next i None

-- From `at` on, where each number names the next, the numbers are these.
abbrev pub Links : (ℕ → Option ℕ) → Option ℕ → List ℕ → Type 0
Links next at [] = at ≡ None
Links next at (i ∷ is) = (at ≡ Some i) × Links next (next i) is

-- From each node's first line in one comes to all of them, in order.
pub record Arranges (lines : List Line) (r : Inputs) : Type 0 where
  pub sixteen : length r.first ≡ 16
  pub most : length r.next ≡ 48
  pub linked : (v : ℕ) → v < 16 → Links (next_after r) (first_into r v) (lines_into (plan_of [] lines) v)
  pub rising : (i j : ℕ) → i < 48 → next_after r i ≡ Some j → i < j
