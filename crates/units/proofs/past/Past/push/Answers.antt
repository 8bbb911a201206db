use Rattle.std.proofs.Common.{set, ap, arith, rules}
use Rattle.units.proofs.Rings.{heard_more}
use Rattle.units.proofs.past.Past.push.Goals as goal

pub returns : goal.returns
returns c = heard_more c.args.self.now _ c.args.f (search rules) (omega arith) (omega arith) (ap (λ i. set c.args.self.now.frames i c.args.f) c.from.ensures)
