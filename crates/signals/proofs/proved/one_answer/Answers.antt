use Rattle.std.proofs.Common.{refl}
use Rattle.signals.proofs.Listening.{one_answer}
use Rattle.signals.proofs.proved.one_answer.Goals as goal

pub returns : goal.returns
returns g c = record { answer = refl; one_answer = one_answer _ }
