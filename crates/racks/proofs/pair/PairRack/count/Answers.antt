use Rattle.racks.proofs.pair.PairRack.count.Goals as goal
use Rattle.std.proofs.lemmas.List.{length-append, length-take}
use Rattle.std.proofs.Common.{arith}

pub returns : goal.returns
returns g c = simp (length-take, length-append) (omega arith)
