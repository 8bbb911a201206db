use Rattle.std.proofs.Common.{refl}
use Rattle.patch.proofs.Working.{worked}
use Rattle.patch.proofs.theorems.proved.examples.Goals as goal

pub returns : goal.returns
returns c = record { answer = refl; worked = worked }
