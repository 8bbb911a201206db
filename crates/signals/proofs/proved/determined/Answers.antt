use Rattle.std.proofs.Common.{refl}
use Rattle.signals.proofs.Existence.{one_ideal, one_under}
use Rattle.signals.proofs.proved.determined.Goals as goal

pub returns : goal.returns
returns c = record { answer = refl; one_ideal = one_ideal; one_under = one_under }
