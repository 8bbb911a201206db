use Rattle.std.proofs.Common.{take}
use Rattle.frames.proofs.Totals.{AddsUp}
use Rattle.frames.proofs.buses.added.Given as goal

abbrev pub invariant-loop-part : goal.invariant-loop-part
invariant-loop-part l = AddsUp l.sum (take l.part-index l.parts)
