use Rattle.std.proofs.Common.{refl}
use Rattle.wave.proofs.Accepting.{accepted_exactly, first_is_first}
use Rattle.wave.proofs.proved.accepted.Goals as goal

pub returns : goal.returns
returns c = record { answer = refl; accepted_exactly = accepted_exactly; first_is_first = first_is_first }
