-- The worked sessions.
use Rattle.std.proofs.Common.{refl, ◌∙◌, ap₂, arith, lit<}
use lib.Bits.{bit_or}
use Rattle.patch.specs.Examples.{Worked}

pub worked : Worked
worked = record {
  in_order = refl;
  late = λ rack late zeroth first ours. omega (arith, ours 0 (lit< tt), ours 1 (lit< tt), ours 2 (lit< tt), ours 3 (lit< tt));
  unplaced = (refl, refl);
  fed = λ sets swept.
      let one = swept 1 (lit< tt) in (
        swept 0 (lit< tt) ∙ ap₂ (λ a b. bit_or (bit_or a b) 1) one one,
        one,
      );
}
