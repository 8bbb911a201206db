use Rattle.std.proofs.Common.{[], subst}
use Rattle.console.proofs.Histories.{keeps}
use Rattle.console.proofs.consoles.Console.start.Goals as goal
use Rattle.console.specs.Calls.{Started}
use Rattle.console.specs.Histories.History.{begun, started}
use Rattle.console.specs.Points.{point}

pub returns : goal.returns
returns g c =
    let h = c.begin.ensures in
    let session = c.args.session.now in
    let here = point c.args.self.now (g.R.Rack.units c.args.rack.now) c.args.tape.now in
    let there = point c.begin.new.self (g.R.Rack.units c.begin.new.rack) c.begin.new.tape in
    let done : Started session here there c.begin.result =
    record { answer = h.answer; console = h.console; units = h.rack; tape = h.tape } in
    record {
      promise = done;
      beginning = λ yes reel. keeps reel there [] (begun session here there (g.R.Rack.lawful c.args.rack.now) (subst (Started session here there) yes done));
      history = λ reel heard before. keeps reel there _ (started session here there heard c.begin.result before done);
    }
