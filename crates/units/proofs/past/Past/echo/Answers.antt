use Rattle.std.proofs.Common.{ap, ◌∙◌}
use Rattle.units.specs.Heard.{heard}
use Rattle.units.proofs.past.Past.echo.Goals as goal
use Rattle.voices.proofs.Looks.{delay_looks, steps_on}
use Rattle.voices.specs.Kinds.{delay_rule}

pub returns : goal.returns
returns c =
    steps_on (delay_rule c.args.k) (delay_looks c.args.k c.requires) (heard c.args.self.now) (heard c.push.new.self) c.args.f c.back.result
    c.push.ensures (c.back.ensures ∙ ap (heard c.push.new.self) c.from.ensures)
