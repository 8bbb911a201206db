use Rattle.std.proofs.Common.{get_or, below_more}
use Rattle.frames.specs.Samples.{silence}
use Rattle.wave.proofs.Rows.{written_more}
use Rattle.wave.proofs.writer.put_all.Goals as goal
use Rattle.wave.specs.Back.{IsFrame}

pub loop-i-preserved : goal.loop-i-preserved
loop-i-preserved c = (
  written_more c.args.frames.now c.args.out.now c.loop-i.out c.put.new.out c.loop-i.i silence c.loop-i-test.true c.loop-i.invariant.0 c.put.ensures.bytes,
  below_more (λ k. IsFrame (get_or c.args.frames.now k silence)) c.loop-i.i c.loop-i.invariant.1 c.put.ensures.samples,
)
