-- The laws of the two joins.
use Rattle.std.specs.Prelude.{◌≡◌, ℕ, zero, suc, ◌/◌, ◌≤◌, max, bit_or}
use Rattle.std.proofs.lemmas.Nat.{or_comm}
use Rattle.std.specs.Int.Bits.{or_self, or_step}
use Rattle.std.proofs.Common.{ap, arith}
use Rattle.patch.specs.Sweeps.{JoinLaws}

pub max_laws : JoinLaws max
max_laws = record { associates = λ x y z. omega arith; commutes = λ x y. omega arith; repeats = λ x. omega arith }

or_half : (a b : ℕ) → bit_or a b / 2 ≡ bit_or (a / 2) (b / 2)
or_half a b = omega (arith, or_step a b)

or_associates : (n a b c : ℕ) → a ≤ n → bit_or (bit_or a b) c ≡ bit_or a (bit_or b c)
or_associates zero a b c h = let e : a ≡ 0 = omega arith in rw e
or_associates (suc n) a b c h =
    omega (
      arith,
      or_step (bit_or a b) c,
      or_step a (bit_or b c),
      or_step a b,
      or_step b c,
      or_associates n (a / 2) (b / 2) (c / 2) (omega arith),
      ap (λ x. bit_or x (c / 2)) (or_half a b),
      ap (bit_or (a / 2)) (or_half b c),
    )

pub or_laws : JoinLaws bit_or
or_laws = record { associates = λ x y z. or_associates x x y z (omega arith); commutes = or_comm; repeats = or_self }
