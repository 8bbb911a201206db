-- A patch by what it tells: the order of the nodes, how late each is, what feeds it, and how long each line is held.
use Rattle.std.specs.Prelude.{ℕ, List, length, take, slice_index}
use Rattle.patch.specs.Orders.{listed}
use Rattle.patch.specs.declared.patches.Patch.{Patch}

abbrev pub ordered_nodes : Patch → List ℕ
ordered_nodes r = listed r.order

abbrev pub latenesses : Patch → List ℕ
latenesses r = take (length (ordered_nodes r)) r.late

abbrev pub feeder_sets : Patch → List ℕ
feeder_sets r = take (length (ordered_nodes r)) r.fed

abbrev pub delays : Patch → List ℕ
delays r = r.held.items

-- By number of the node or the line.
abbrev pub late_of : Patch → ℕ → ℕ
late_of r v = slice_index (latenesses r) v

abbrev pub feeders_of : Patch → ℕ → ℕ
feeders_of r v = slice_index (feeder_sets r) v

abbrev pub delay_of : Patch → ℕ → ℕ
delay_of r i = slice_index (delays r) i
