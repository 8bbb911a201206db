use Rattle.std.proofs.Common.{refl}
use Rattle.signals.proofs.Latenesses.{one_arrival, ours_is_least}
use Rattle.signals.proofs.proved.least_late.Goals as goal

pub returns : goal.returns
returns c = record { answer = refl; one_arrival = one_arrival; ours_is_least = ours_is_least }
