use Rattle.std.proofs.Common.{refl}
use Rattle.signals.proofs.Listening.{moves_in_time}
use Rattle.signals.proofs.proved.in_time.Goals as goal

pub returns : goal.returns
returns g c = record { answer = refl; moves_in_time = moves_in_time _ }
