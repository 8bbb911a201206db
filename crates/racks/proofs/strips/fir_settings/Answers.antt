use Rattle.std.proofs.Common.{rules}
use Rattle.racks.proofs.strips.fir_settings.Goals as goal
use Rattle.units.specs.Taps.{taps_of}

pub returns : goal.returns
unfolding taps_of
returns c = search rules
