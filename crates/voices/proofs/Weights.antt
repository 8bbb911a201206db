-- The pan weights: the largest whole number whose square is at most a number.
use Rattle.std.proofs.Common.{◌≡◌, ℕ, zero, suc, ◌+◌, ◌-◌, ◌*◌, ◌<◌, ◌≤◌, false, leb, ⊎_elim, mul-le-mul, arith}
use Rattle.std.proofs.lemmas.Bool.{cases_lt, cond_both, leb-true, leb-false}
use Rattle.voices.specs.Kinds.{root, weight, Weighs}

root_fits : (most n : ℕ) → root most n * root most n ≤ n
unfolding root
root_fits zero n = omega arith
root_fits (suc most) n =
    cond_both (leb (suc most * suc most) n) (suc most) (root most n) (λ a. a * a ≤ n) (leb-true (suc most * suc most) n) (λ _. root_fits most n)

root_largest : (most n b : ℕ) → b ≤ most → b * b ≤ n → b ≤ root most n
unfolding root
root_largest zero n b h f = h
root_largest (suc most) n b h f =
    cond_both (leb (suc most * suc most) n) (suc most) (root most n) (λ a. b ≤ a) (λ _. h)
    (λ e. ⊎_elim (λ l. root_largest most n b (omega arith) f) (λ g. absurd (lower e g)) (cases_lt b (suc most)))
  where
    lower : leb (suc most * suc most) n ≡ false → suc most ≤ b → ⊥
    lower e g = let k = mul-le-mul g g in omega (arith, leb-false (suc most * suc most) n e)

-- no number above 16,384 has a square that small
pub not_above : (n b : ℕ) → n ≤ 268435456 → b * b ≤ n → b ≤ 16384
not_above n b h f = ⊎_elim (λ g. absurd (over g)) (λ g. g) (cases_lt 16384 b)
  where
    over : 16384 < b → ⊥
    over g = let k = mul-le-mul {n₁ = 16385} {m₁ = 16385} g g in omega arith

pub weight_weighs : (p : ℕ) → Weighs p (weight p)
unfolding weight
weight_weighs p = (root_fits 16384 (1048576 * (256 - p)), λ b f. root_largest 16384 (1048576 * (256 - p)) b (not_above (1048576 * (256 - p)) b (omega arith) f) f)

-- the rule leaves one weight
pub weight_is : (p a : ℕ) → Weighs p a → a ≡ weight p
unfolding weight
weight_is p a w = let u = weight_weighs p in let m : a ≤ weight p = u.1 a w.0 in let k : weight p ≤ a = w.1 (weight p) u.0 in omega arith

-- a test of one entry: its square fits, and the next one's does not
pub weighs_by : (p a : ℕ) → a * a ≤ 1048576 * (256 - p) → 1048576 * (256 - p) < (a + 1) * (a + 1) → Weighs p a
weighs_by p a h g = (h, λ b f. ⊎_elim (λ l. absurd (over b f l)) (λ l. l) (cases_lt a b))
  where
    over : (b : ℕ) → b * b ≤ 1048576 * (256 - p) → a < b → ⊥
    over b f l = let s : a + 1 ≤ b = omega arith in let k = mul-le-mul s s in omega arith
