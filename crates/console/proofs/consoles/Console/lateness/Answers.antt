use Rattle.console.proofs.Histories.{keeps}
use Rattle.console.proofs.consoles.Console.lateness.Goals as goal
use Rattle.console.specs.Points.{point}

pub returns : goal.returns
returns c = record { promise = λ units tape. c.late.ensures; history = λ reel units tape heard h. keeps reel (point c.args.self.now units tape) heard h }
