use Rattle.std.proofs.Common.{◌+◌, ◌*◌, drop, sym, ap, ◌∙◌, arith}
use Rattle.words.proofs.Runs.{digit_at, read_end, read_more, ten_times}
use Rattle.words.proofs.numbers.value.Goals as goal
use Rattle.words.specs.Numbers.{read_on}

pub overflow_sub-d : goal.overflow_sub-d
overflow_sub-d c = (digit_at c.args.digits.now c.loop-d.d-index c.requires.digits c.loop-d-test.true).0

pub loop-d-preserved : goal.loop-d-preserved
loop-d-preserved c =
    let ds = c.args.digits.now in
    let i = c.loop-d.d-index in
    let d = digit_at ds i c.requires.digits c.loop-d-test.true in
    let t = ten_times i in
    let b = c.loop-d.invariant.1 in
    let f = c.from.ensures in
    (ap (λ k. read_on (10 * c.loop-d.n + k) (drop (i + 1) ds)) f ∙ sym (read_more ds i c.loop-d-test.true c.loop-d.n) ∙ c.loop-d.invariant.0, omega arith)

pub returns : goal.returns
returns c = sym (read_end c.args.digits.now c.loop-d.d-index c.loop-d-test.false c.loop-d.n) ∙ c.loop-d.invariant.0
