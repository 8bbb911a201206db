use Rattle.std.proofs.Common.{refl}
use Rattle.patch.proofs.Placed.{one_order, ordered_is_placed, placed_is_ordered}
use Rattle.patch.proofs.theorems.proved.placing.Goals as goal

pub returns : goal.returns
returns c = record { answer = refl; one_order = one_order; placed_is_ordered = placed_is_ordered; ordered_is_placed = ordered_is_placed }
