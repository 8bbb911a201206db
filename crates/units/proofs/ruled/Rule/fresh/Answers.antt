use Rattle.std.proofs.Common.{sym, ◌∙◌}
use Rattle.units.proofs.ruled.Rule.fresh.Goals as goal
use Rattle.units.specs.Heard.{heard}
use Rattle.voices.proofs.Looks.{fresh, rests}

pub returns-clause-unit : goal.returns-clause-unit
returns-clause-unit g c =
    let s = c.args.self.now in
    fresh (g.Self.Rule.late s) (g.Self.Rule.rule s) (heard c.new.result) c.new.ensures ∙ sym (g.Self.Rule.is_unit s)

pub returns-clause-voice : goal.returns-clause-voice
returns-clause-voice g c = rests (g.Self.Rule.rule c.args.self.now) (heard c.new.result) c.new.ensures
