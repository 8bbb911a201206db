use Rattle.racks.proofs.Steps.{pair_first, pair_second, pair_steps_first, pair_steps_second}
use Rattle.racks.proofs.pair.Pair.find.Goals as goal
use Rattle.racks.specs.Sides.{Stands}
use Rattle.racks.specs.declared.sides.Side.TheVariants.{Second}
use Rattle.std.proofs.Common.{◌-◌, Some, sym, subst, arith}

pub returns-then-s-before : goal.returns-then-s-before
returns-then-s-before g c =
    let us = g.P.Rack.units c.args.self.now.first in
    let vs = g.Q.Rack.units c.args.self.now.second in
    let few = (g.P.Rack.lawful c.args.self.now.first).few in
    (pair_first us vs c.args.s few (omega arith), λ f. pair_steps_first us vs c.args.s few f (omega arith))

pub returns-then-s-lt16 : goal.returns-then-s-lt16
returns-then-s-lt16 g c =
    let us = g.P.Rack.units c.args.self.now.first in
    let vs = g.Q.Rack.units c.args.self.now.second in
    let few = (g.P.Rack.lawful c.args.self.now.first).few in
    subst (λ n. Stands us vs c.args.s (Some (Second (c.args.s - n)))) (sym c.count-before.ensures)
    (pair_second us vs c.args.s few (omega arith) c.if-s-lt16.true, λ f. pair_steps_second us vs c.args.s few f (omega arith) c.if-s-lt16.true)
