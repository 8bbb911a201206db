use borrow.Author.Differences.{abs_is}
use Rattle.std.proofs.Common.{refl, arith, rules}
use Rattle.frames.proofs.Bounds.{scaled_result}
use Rattle.frames.proofs.sums.Sum.take.Goals as goal
use Rattle.std.proofs.lemmas.Int.{ints}

pub overflow_add-self : goal.overflow_add-self
overflow_add-self c =
    let x = scaled_result c.args.part.frame.left c.args.part.gain c.scale.result (search rules) (search rules) c.scale.ensures.value in
    omega (arith, ints, abs_is)

pub overflow_add-self-2 : goal.overflow_add-self-2
overflow_add-self-2 c =
    let y = scaled_result c.args.part.frame.right c.args.part.gain c.scale-2.result (search rules) (search rules) c.scale-2.ensures.value in
    omega (arith, ints, abs_is)

pub invariant_of-self : goal.invariant_of-self
invariant_of-self c =
    let x = scaled_result c.args.part.frame.left c.args.part.gain c.scale.result (search rules) (search rules) c.scale.ensures.value in
    let y = scaled_result c.args.part.frame.right c.args.part.gain c.scale-2.result (search rules) (search rules) c.scale-2.ensures.value in
    omega (arith, ints, abs_is)

pub returns : goal.returns
returns c =
    let x = scaled_result c.args.part.frame.left c.args.part.gain c.scale.result (search rules) (search rules) c.scale.ensures.value in
    let y = scaled_result c.args.part.frame.right c.args.part.gain c.scale-2.result (search rules) (search rules) c.scale-2.ensures.value in
    record { left = omega (arith, ints, abs_is); right = omega (arith, ints, abs_is); lines = refl }
