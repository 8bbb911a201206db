use borrow.Author.Differences.{abs_is}
use Rattle.std.proofs.Common.{◌<◌, get_or, pos, arith, w16, SFits, rules}
use Rattle.std.proofs.lemmas.Int.{ints, to_z-of_z}
use Rattle.units.proofs.Tapping.{added, tapped_more}
use Rattle.units.proofs.fir.sums.Goals as goal
use Rattle.units.specs.Heard.{heard}

pub overflow_add-left : goal.overflow_add-left
overflow_add-left c = omega (arith, ints, abs_is, c.product-left.ensures.bound, c.loop-k.invariant.2)

pub overflow_add-right : goal.overflow_add-right
overflow_add-right c = omega (arith, ints, abs_is, c.product-right.ensures.bound, c.loop-k.invariant.3)

pub loop-k-preserved : goal.loop-k-preserved
loop-k-preserved c =
    let taps = c.args.taps.now in
    let past = heard c.args.past.now in
    let t : SFits w16 (get_or taps c.loop-k.k (pos 0)) = search rules in
    let x : SFits w16 c.back-f.result.left = search rules in
    let y : SFits w16 c.back-f.result.right = search rules in
    let v = simp to_z-of_z at c.product-left.ensures.value in
    let w = simp to_z-of_z at c.product-right.ensures.value in
    let l = tapped_more taps (λ f. f.left) past c.loop-k.k c.back-f.result c.product-left.result c.back-f.ensures v in
    let r = tapped_more taps (λ f. f.right) past c.loop-k.k c.back-f.result c.product-right.result c.back-f.ensures w in
    let i = c.loop-k.invariant in
    let b : c.loop-k.k < 31 = omega arith in
    let x = added _ _ _ _ c.loop-k.k b i.2 c.product-left.ensures.bound i.0 l in
    let y = added _ _ _ _ c.loop-k.k b i.3 c.product-right.ensures.bound i.1 r in
    (x.0, y.0, x.1, y.1)
