-- Chains of lines.
use Rattle.std.specs.Prelude.{◌≡◌, ℕ, ◌<◌, length}
use Rattle.session.specs.Plan.{Plan, line}

-- A chain of lines leads from node u to a node: to u itself, and along each line on to its end.
pub data Chain (p : Plan) (u : ℕ) : ℕ → Type 0 where
  here : Chain p u u
  along : {v : ℕ} (i : ℕ) → i < length p.lines → (line p i).end ≡ v → Chain p u (line p i).start → Chain p u v
