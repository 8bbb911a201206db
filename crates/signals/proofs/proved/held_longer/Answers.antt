use Rattle.std.proofs.Common.{refl}
use Rattle.signals.proofs.Sessions.{held_longer}
use Rattle.signals.proofs.proved.held_longer.Goals as goal

pub returns : goal.returns
returns c = record { answer = refl; held_longer = held_longer }
