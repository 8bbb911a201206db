use Rattle.std.proofs.Common.{refl}
use Rattle.signals.proofs.Agreement.{aligned_is_ideal}
use Rattle.signals.proofs.proved.the_mix.Goals as goal

pub returns : goal.returns
returns c = record { answer = refl; aligned_is_ideal = aligned_is_ideal }
