use Rattle.std.proofs.Common.{◌<◌, length, take, pos, arith}
use Rattle.frames.proofs.Totals.{adds_one}
use Rattle.std.specs.Prelude.{is_ok}
use Rattle.frames.proofs.buses.added.Goals as goal
use Rattle.frames.specs.declared.samples.Part.{Part}
use Rattle.std.proofs.lemmas.List.{length-take, take_all, take_more}

no_part : Part
no_part = record { frame = record { left = pos 0; right = pos 0 }; gain = pos 0 }

pub loop-part-preserved : goal.loop-part-preserved
unfolding no_part
loop-part-preserved c =
    let h = c.add.ensures in
    let parts = c.args.parts.now in
    let i = c.loop-part.part-index in
    let few : length (take i parts) < 48 = simp length-take (omega arith) in
    rw (take_more parts i no_part c.loop-part-test.true)
    (adds_one c.loop-part.sum c.add.new.self (take i parts) _ (is_ok c.add.result) c.loop-part.invariant few h.room h.left h.right h.lines)

pub returns : goal.returns
returns c =
    let all = take_all c.loop-part.part-index c.args.parts.now c.loop-part-test.false in
    record { left = rw all at c.loop-part.invariant.0; right = rw all at c.loop-part.invariant.1 }
