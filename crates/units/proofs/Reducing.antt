-- A sample times a ceiling over a greater peak is a sample.
use Rattle.std.proofs.Common.{ℕ, zero, suc, ◌*◌, ◌/◌, ◌<◌, ◌≤◌, ℤ, pos, negsuc, neg_ℤ, subst, mul_comm, mul-le-mul_left, arith, w16, SFits}
use native.Mathlib.Nat.{div-le_of_le-mul}
use Rattle.std.proofs.lemmas.Int.{ints}
use Rattle.units.specs.Limits.{reduced}
use lib.Signed.{quot_z}

quotient : (n ceiling peak : ℕ) → ceiling < peak → n * ceiling / peak ≤ n
quotient n ceiling peak h =
    let l : ceiling ≤ peak = omega arith in
    div-le_of_le-mul peak (subst (λ m. n * ceiling ≤ m) (mul_comm n peak) (mul-le-mul_left n l))

negative : (m peak : ℕ) → m / peak ≤ 32768 → SFits w16 (quot_z (neg_ℤ (pos m)) (pos peak))
negative zero peak h = omega (arith, ints)
negative (suc m) peak h = omega (arith, ints)

pub reduced_fits : (s : ℤ) (ceiling peak : ℕ) → SFits w16 s → ceiling < peak → SFits w16 (reduced ceiling peak s)
reduced_fits (pos n) ceiling peak f h =
    let b : n ≤ 32767 = omega (arith, ints) in
    let q = quotient n ceiling peak h in
    omega (arith, ints)
reduced_fits (negsuc n) ceiling peak f h =
    let b : suc n ≤ 32768 = omega (arith, ints) in
    let q = quotient (suc n) ceiling peak h in
    negative (suc n * ceiling) peak (omega arith)
