-- The rules that a draft keeps at every moment.
use Rattle.std.specs.Prelude.{◌≡◌, ℕ, ◌<◌, ◌≤◌, true, Some}
use Rattle.session.specs.Held.{Held, setting, suits}
use Rattle.session.specs.Plan.{KeepsRules}
use Rattle.session.specs.declared.settings.Kind.{Kind}

-- Its rate is 0 or from 8,000 to 192,000, its nodes and lines keep their rules, and each unit that is set has a kind
-- that is for it.
pub record LawfulDraft (h : Held) : Type 0 where
  pub least_rate : 0 < h.rate → 8000 ≤ h.rate
  pub most_rate : h.rate ≤ 192000
  pub keeps : KeepsRules h.plan
  pub suited : (s : ℕ) (k : Kind) → (setting h.settings s).kind ≡ Some k → suits s k ≡ true
