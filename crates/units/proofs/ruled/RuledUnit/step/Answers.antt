use Rattle.units.proofs.ruled.RuledUnit.step.Goals as goal
use Rattle.units.specs.Heard.{heard}
use Rattle.voices.proofs.Looks.{steps_on}

pub returns-clause-steps : goal.returns-clause-steps
returns-clause-steps g c =
    let s = c.args.self.now.settings in
    steps_on (g.S.Rule.rule s) (g.S.Rule.looks s) (heard c.args.self.now.past) (heard c.push.new.self) c.args.f c.answer.result c.push.ensures c.answer.ensures
