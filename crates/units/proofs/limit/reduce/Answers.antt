use Rattle.std.proofs.Common.{◌≡◌, ◌*ℤ◌, sym, ◌∙◌, subst, ap₂, arith, w16, w64, SFits, to_z, of_z, rules}
use lib.Signed.{quot_z}
use Rattle.std.proofs.lemmas.Int.{ints, to_z-of_z}
use Rattle.units.proofs.Reducing.{reduced_fits}
use Rattle.units.proofs.limit.reduce.Goals as goal
use Rattle.units.specs.Limits.{reduced}

value : (c : goal.After-from-3) → to_z w64 (of_z w64 (quot_z (to_z w64 (of_z w64 (to_z w64 (of_z w64 c.from.result) *ℤ to_z w64 (of_z w64 c.from-2.result)))) (to_z w64 (of_z w64 c.from-3.result)))) ≡ reduced c.args.ceiling c.args.peak c.args.sample
value c =
    let x : SFits w64 c.from.result = search rules in
    let y : SFits w64 c.from-2.result = search rules in
    let z : SFits w64 c.from-3.result = search rules in
    let p : SFits w64 (to_z w64 (of_z w64 c.from.result) *ℤ to_z w64 (of_z w64 c.from-2.result)) = search rules in
    let s = to_z-of_z w64 _ x ∙ c.from.ensures ∙ to_z-of_z w16 _ c.ranges.sample in
    let e = ap₂ quot_z (to_z-of_z w64 _ p ∙ ap₂ ◌*ℤ◌ s (to_z-of_z w64 _ y ∙ c.from-2.ensures)) (to_z-of_z w64 _ z ∙ c.from-3.ensures) in
    let f = reduced_fits c.args.sample c.args.ceiling c.args.peak c.ranges.sample c.requires in
    let g : SFits w64 (reduced c.args.ceiling c.args.peak c.args.sample) = omega (arith, ints) in
    to_z-of_z w64 _ (subst (SFits w64) (sym e) g) ∙ e

fits : (c : goal.After-from-3) → SFits w16 (to_z w64 (of_z w64 (quot_z (to_z w64 (of_z w64 (to_z w64 (of_z w64 c.from.result) *ℤ to_z w64 (of_z w64 c.from-2.result)))) (to_z w64 (of_z w64 c.from-3.result)))))
fits c = subst (SFits w16) (sym (value c)) (reduced_fits c.args.sample c.args.ceiling c.args.peak c.ranges.sample c.requires)

pub overflow_cast-result : goal.overflow_cast-result
overflow_cast-result c = fits c

pub returns : goal.returns
returns c = to_z-of_z w16 _ (fits c) ∙ value c
