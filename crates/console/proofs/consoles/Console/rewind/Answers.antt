use Rattle.console.proofs.Histories.{keeps}
use Rattle.console.proofs.consoles.Console.rewind.Goals as goal
use Rattle.console.specs.Calls.{Rewound}
use Rattle.console.specs.Histories.History.{rewound}
use Rattle.console.specs.Points.{point}

pub returns : goal.returns
returns g c =
    let h = c.go_back.ensures in
    let here = point c.args.self.now (g.R.Rack.units c.args.rack.now) c.args.tape.now in
    let there = point c.go_back.new.self (g.R.Rack.units c.go_back.new.rack) c.go_back.new.tape in
    let done : Rewound here there c.go_back.result =
    record { answer = h.answer; desk = h.desk; position = h.position; units = h.rack; tape = h.tape } in
    record { promise = done; history = λ reel heard before. keeps reel there _ (rewound here there heard c.go_back.result before done) }
