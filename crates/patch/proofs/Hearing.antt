-- What a node has heard, and what it has yet to hear.
use Rattle.std.proofs.Common.{◌≡◌, ℕ, ◌-◌, ◌<◌, List, [], map, length, None, Option, sym, subst}
use Rattle.patch.proofs.Joining.{collected, collected_from, from_none}
use Rattle.patch.specs.Placing.{plan_of}
use Rattle.patch.specs.Sweeps.{Kind, by_node}
use Rattle.session.specs.Plan.{line, lines_into}
use Rattle.session.specs.declared.nodes.Line.{Line}
use Rattle.signals.proofs.Lines.{all_lines}
use Rattle.std.specs.List.{AllByRecursion}

-- The value at line i's start.
abbrev pub value_at : {X : Type 0} → Kind X → List Line → List X → ℕ → X
value_at kind lines values i = by_node kind values (line (plan_of [] lines) i).start

-- The lines into v that are left have values that, joined to what was heard, are those of all lines into v.
abbrev pub Hearing : {X : Type 0} → Kind X → List Line → List X → ℕ → Option X → List ℕ → Type 0
Hearing kind lines values v heard rest =
    AllByRecursion (λ i. i < length lines) rest
    × (collected_from kind.join heard (map (value_at kind lines values) rest)
    ≡ collected kind.join (map (value_at kind lines values) (lines_into (plan_of [] lines) v)))

module _ {X : Type 0} (kind : Kind X) (lines : List Line) (values : List X) (v : ℕ) where
  pub hears_first : (rest : List ℕ) → rest ≡ lines_into (plan_of [] lines) v → Hearing kind lines values v None rest
  hears_first rest e =
      subst (Hearing kind lines values v None) (sym e) (
        all_lines (plan_of [] lines) v (λ i. i < length lines) (λ i l e. l),
        from_none kind.join (map (value_at kind lines values) (lines_into (plan_of [] lines) v)),
      )
