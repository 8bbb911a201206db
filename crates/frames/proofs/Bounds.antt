-- How large products, quotients and sums can become.
use Rattle.std.proofs.Common.{◌≡◌, ℕ, zero, suc, ◌+◌, ◌*◌, ◌≤◌, ℤ, pos, negsuc, ◌+ℤ◌, ◌*ℤ◌, neg_ℤ, nat_abs, refl, ◌∙◌, ap₂, mul-le-mul, arith, w16, SFits, to_z, of_z}
use borrow.Author.Differences.{abs_is}
use Rattle.frames.specs.Samples.{divided, scaled}
use Rattle.std.proofs.lemmas.Int.{ints, to_z-of_z}

abs_neg : (n : ℕ) → nat_abs (neg_ℤ (pos n)) ≡ n
abs_neg zero = refl
abs_neg (suc n) = refl

abs_mul : (a b : ℤ) → nat_abs (a *ℤ b) ≡ nat_abs a * nat_abs b
abs_mul (pos a) (pos b) = refl
abs_mul (pos a) (negsuc b) = abs_neg (a * suc b)
abs_mul (negsuc a) (pos b) = abs_neg (suc a * b)
abs_mul (negsuc a) (negsuc b) = refl

pub product_bound : (m n : ℕ) (a b : ℤ) → nat_abs a ≤ m → nat_abs b ≤ n → nat_abs (a *ℤ b) ≤ m * n
product_bound m n a b p q = rw (abs_mul a b) (mul-le-mul p q)

pub divided_bound : (k : ℕ) (z : ℤ) → nat_abs z ≤ 16384 * k → nat_abs (divided z) ≤ k
divided_bound k (pos n) h = omega arith
divided_bound k (negsuc n) h = omega arith

pub sample_bound : (z : ℤ) → SFits w16 z → nat_abs z ≤ 32768
sample_bound z f = omega (arith, ints, abs_is)

pub scaled_bound : (s g : ℤ) → SFits w16 s → SFits w16 g → nat_abs (scaled s g) ≤ 65536
scaled_bound s g f h = divided_bound 65536 (s *ℤ g) (product_bound 32768 32768 s g (sample_bound s f) (sample_bound g h))

-- what a call of `scale` gives
pub scaled_result : (s g r : ℤ) → SFits w16 s → SFits w16 g → r ≡ scaled (to_z w16 (of_z w16 s)) (to_z w16 (of_z w16 g)) → (r ≡ scaled s g) × (nat_abs r ≤ 65536)
scaled_result s g r f h e =
    let v : r ≡ scaled s g = e ∙ ap₂ scaled (to_z-of_z w16 s f) (to_z-of_z w16 g h) in
    (v, rw v (scaled_bound s g f h))
