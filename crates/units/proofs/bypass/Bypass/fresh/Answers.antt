use Rattle.units.proofs.Rested.{bypass_fresh}
use Rattle.units.proofs.bypass.Bypass.fresh.Goals as goal
use Rattle.units.specs.Heard.{heard}

pub returns : goal.returns
returns g c on u = bypass_fresh on (heard c.new.result) (g.U.Unit.meaning u) c.new.ensures
