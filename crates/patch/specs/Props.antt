-- What a wiring keeps has one proof at most.
use Rattle.std.specs.Prelude.{ℕ, List, [], ◌∷◌, Some, None, Option}
use Rattle.std.specs.Coded.{Coded-set, coded_bool, coded_option, coded_ℕ, le_prop, Π_prop}
use Rattle.patch.specs.Inputs.{Arranges, Links}
use Rattle.patch.specs.declared.inputs.Inputs.{Inputs}
use Rattle.session.specs.Plan.{KeepsRules, Plan}
use Rattle.session.specs.declared.nodes.Line.{Line}

pub keeps_prop : (p : Plan) → IsProp (KeepsRules p)
keeps_prop p r s i = record {
  few_nodes = le_prop r.few_nodes s.few_nodes i;
  few_lines = le_prop r.few_lines s.few_lines i;
  starts = Π_prop (λ _. Π_prop (λ _. le_prop)) r.starts s.starts i;
  ends = Π_prop (λ _. Π_prop (λ _. le_prop)) r.ends s.ends i;
  ends_at_bus = Π_prop (λ _. Π_prop (λ _. Coded-set coded_bool _ _)) r.ends_at_bus s.ends_at_bus i;
  one_node = Π_prop (λ _. Π_prop (λ _. Π_prop (λ _. Π_prop (λ _. Π_prop (λ _. Π_prop (λ _. Π_prop (λ _. Coded-set coded_ℕ _ _))))))) r.one_node s.one_node i;
}

links_prop : (next : ℕ → Option ℕ) (is : List ℕ) (at : Option ℕ) → IsProp (Links next at is)
links_prop next [] at = Coded-set (coded_option coded_ℕ) at None
links_prop next (i ∷ is) at = λ a b k. (Coded-set (coded_option coded_ℕ) at (Some i) a.0 b.0 k, links_prop next is (next i) a.1 b.1 k)

pub arranges_prop : (lines : List Line) (r : Inputs) → IsProp (Arranges lines r)
arranges_prop lines r a b i = record {
  sixteen = Coded-set coded_ℕ _ _ a.sixteen b.sixteen i;
  most = Coded-set coded_ℕ _ _ a.most b.most i;
  linked = Π_prop (λ _. Π_prop (λ _. links_prop _ _ _)) a.linked b.linked i;
  rising = Π_prop (λ _. Π_prop (λ _. Π_prop (λ _. Π_prop (λ _. le_prop)))) a.rising b.rising i;
}
