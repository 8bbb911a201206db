use Rattle.std.proofs.Common.{refl}
use Rattle.signals.proofs.Latenesses.{one_lateness, ours_is_aligned}
use Rattle.signals.proofs.proved.aligned.Goals as goal

pub returns : goal.returns
returns c = record { answer = refl; one_lateness = one_lateness; ours_is_aligned = ours_is_aligned }
