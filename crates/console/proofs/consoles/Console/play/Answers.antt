use Rattle.console.proofs.Histories.{keeps}
use Rattle.console.proofs.consoles.Console.play.Goals as goal
use Rattle.console.specs.Calls.{Played}
use Rattle.console.specs.Histories.History.{played}
use Rattle.console.specs.Points.{point}

pub returns : goal.returns
returns g c =
    let h = c.go_on.ensures in
    let reel = g.L.Reel.tracks c.args.reel.now in
    let here = point c.args.self.now (g.R.Rack.units c.args.rack.now) c.args.tape.now in
    let there = point c.go_on.new.self (g.R.Rack.units c.go_on.new.rack) c.go_on.new.tape in
    let done : Played reel here there c.args.out.now c.go_on.new.out c.go_on.result =
    record { answer = h.answer; desk = h.desk; position = h.position; deck = h.deck; out = h.out } in
    record { promise = done; history = λ heard before. keeps reel there _ (played here there c.args.out.now c.go_on.new.out heard c.go_on.result before done) }
