use Rattle.units.proofs.Rested.{bypass_rests}
use Rattle.units.proofs.bypass.Bypass.forget.Goals as goal
use Rattle.units.specs.Heard.{heard}

pub returns : goal.returns
returns g c =
    let below = c.rest.ensures in
    bypass_rests c.args.self.now.settings.on (heard c.args.self.now.past) (heard c.new-self.result)
    (g.U.Unit.meaning c.args.self.now.unit) (g.U.Unit.meaning c.rest.new.self) c.new-self.ensures
    below.present below.late below.voice
