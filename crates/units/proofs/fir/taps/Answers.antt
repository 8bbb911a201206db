use Rattle.std.proofs.Common.{take, ap}
use Rattle.units.proofs.fir.taps.Goals as goal
use Rattle.units.specs.Taps.{taps_of}

pub returns-clause-value : goal.returns-clause-value
unfolding taps_of
returns-clause-value c = ap (λ n. take n c.args.settings.now.taps) c.from.ensures
