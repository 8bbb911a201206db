-- A session with a node keeps the rules.
use Rattle.std.proofs.Common.{◌≡◌, ◌≤◌, length, ap, ⊎_elim, arith}
use mathlib.Core.Bool.{Bool-set}
use mathlib.Core.HLevel.{Π_prop}
use mathlib.Core.Logic.{∥∥₁_elim}
use native.Mathlib.Bridge.{le_prop}
use native.Mathlib.Nat.{ℕ_set}
use Rattle.session.specs.Held.{Full, Held, nothing}
use Rattle.session.specs.Plan.{KeepsRules, Plan}
use Rattle.session.specs.Sessions.{held}
use Rattle.session.specs.declared.sessions.Session.{Session}

keeps_prop : (p : Plan) → IsProp (KeepsRules p)
keeps_prop p r s i = record {
  few_nodes = le_prop r.few_nodes s.few_nodes i;
  few_lines = le_prop r.few_lines s.few_lines i;
  starts = Π_prop (λ _. Π_prop (λ _. le_prop)) r.starts s.starts i;
  ends = Π_prop (λ _. Π_prop (λ _. le_prop)) r.ends s.ends i;
  ends_at_bus = Π_prop (λ _. Π_prop (λ _. Bool-set _ _)) r.ends_at_bus s.ends_at_bus i;
  one_node = Π_prop (λ _. Π_prop (λ _. Π_prop (λ _. Π_prop (λ _. Π_prop (λ _. Π_prop (λ _. Π_prop (λ _. ℕ_set _ _))))))) r.one_node s.one_node i;
}

full_prop : (h : Held) → IsProp (Full h)
full_prop h r s i = record {
  least_rate = le_prop r.least_rate s.least_rate i;
  most_rate = le_prop r.most_rate s.most_rate i;
  some_node = le_prop r.some_node s.some_node i;
  keeps = keeps_prop h.plan r.keeps s.keeps i;
  eight = ℕ_set _ _ r.eight s.eight i;
  suited = Π_prop (λ _. Π_prop (λ _. Π_prop (λ _. Bool-set _ _))) r.suited s.suited i;
}

pub full : (s : Session) → 1 ≤ length (held s).plan.nodes → Full (held s)
full s h = ∥∥₁_elim s.lawful (full_prop (held s)) (⊎_elim (λ e. absurd (none e)) (λ f. f))
  where
    none : held s ≡ nothing → ⊥
    none e = let l = ap (λ x. length x.plan.nodes) e in omega arith
