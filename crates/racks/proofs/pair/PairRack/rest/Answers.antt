use Rattle.racks.proofs.Steps.{pair_rests}
use Rattle.racks.proofs.pair.PairRack.rest.Goals as goal
use Rattle.std.proofs.Common.{◌++◌, take, sym, ◌∙◌, ap₂}

pub returns : goal.returns
returns g c = ap₂ (λ u v. take 16 (u ++ v)) c.rest_both.ensures.first c.rest_both.ensures.second ∙ sym (pair_rests (g.P.Rack.units c.args.self.now.first) (g.Q.Rack.units c.args.self.now.second))
