-- Which refusal is due for a session and a rack, if any.
use Rattle.std.specs.Prelude.{ℕ, Bool, true, false, List, length, Some, None, Option, ◌==◌, nat_le}
use Rattle.frames.specs.declared.samples.Frame.{Frame}
use Rattle.patch.specs.Placing.{lowest, lowest_unplaced}
use Rattle.patch.specs.declared.faults.PatchFault.{PatchFault}
use Rattle.patch.specs.declared.faults.PatchFault.TheVariants.{NoNode, NoUnit, Unplaced}
use Rattle.session.specs.Plan.{Plan, node}
use Rattle.voices.specs.Meaning.{Meaning}

-- Does a rack of so many units lack a node's unit?
abbrev pub lacks : ℕ → Option ℕ → Bool
lacks count None = false
lacks count (Some s) = nat_le count s

-- The lowest node whose unit the rack lacks.
abbrev pub lowest_lacking : Plan → ℕ → Option ℕ
lowest_lacking p count = lowest (λ v. lacks count (node p v).unit) (length p.nodes)

-- The first that is due: no node, then a unit that the rack lacks, then a node that stays unplaced.
abbrev pub first_due : Bool → Option ℕ → Option ℕ → Option PatchFault
first_due true lacking unplaced = Some NoNode
first_due false (Some v) unplaced = Some (NoUnit v)
first_due false None (Some v) = Some (Unplaced v)
first_due false None None = None

-- What is due where there is a node.
abbrev pub due_with_nodes : Plan → ℕ → Option PatchFault
due_with_nodes p count = first_due false (lowest_lacking p count) (lowest_unplaced p)

abbrev pub due : Plan → List (Meaning Frame) → Option PatchFault
due p rack = first_due (length p.nodes == 0) (lowest_lacking p (length rack)) (lowest_unplaced p)
