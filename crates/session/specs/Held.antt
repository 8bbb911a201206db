-- What a session holds, and the rules of every session.
use Rattle.std.specs.Prelude.{◌≡◌, ℕ, ◌≤◌, Bool, true, false, ◌&&◌, ◌⊎◌, List, [], length, replicate, Some, None, nat_le, nat_lt, slice_index_or}
use Rattle.session.specs.Plan.{KeepsRules, Plan}
use Rattle.session.specs.declared.settings.Kind.{Kind}
use Rattle.session.specs.declared.settings.Kind.TheVariants.{Fir, Limit, Pan, Delay}
use Rattle.session.specs.declared.settings.Setting.{Setting}

-- A rate, the nodes and lines, and the settings of units 0 to 7.
pub record Held : Type 0 where
  pub rate : ℕ
  pub plan : Plan
  pub settings : List Setting

-- A unit that is not set, without layers.
abbrev pub unset : Setting
unset = record { kind = None; trim = None; bypass = false }

-- The entry of unit s.
abbrev pub setting : List Setting → ℕ → Setting
setting settings s = slice_index_or settings s unset

-- Which units a kind is for: fir for 0 and 1, limit for 2 and 3, pan for 4 and 5, delay for 6 and 7.
abbrev pub suits : ℕ → Kind → Bool
suits s (Fir k) = nat_lt s 2
suits s (Limit k) = nat_le 2 s && nat_lt s 4
suits s (Pan k) = nat_le 4 s && nat_lt s 6
suits s (Delay k) = nat_le 6 s && nat_lt s 8

-- The empty session: no node, line or setting, rate 0.
abbrev pub nothing : Held
nothing = record { rate = 0; plan = record { nodes = []; lines = [] }; settings = replicate 8 unset }

-- A session with a node: its rate is from 8,000 to 192,000, its nodes and lines keep their rules, there are eight
-- settings, and each unit that is set has a kind that is for it.
pub record Full (h : Held) : Type 0 where
  pub least_rate : 8000 ≤ h.rate
  pub most_rate : h.rate ≤ 192000
  pub some_node : 1 ≤ length h.plan.nodes
  pub keeps : KeepsRules h.plan
  pub eight : length h.settings ≡ 8
  pub suited : (s : ℕ) (k : Kind) → (setting h.settings s).kind ≡ Some k → suits s k ≡ true

-- Every session is the empty session or keeps the rules.
abbrev pub LawfulSession : Held → Type 0
LawfulSession h = (h ≡ nothing) ⊎ Full h
