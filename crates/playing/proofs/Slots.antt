-- Different frames that the tape holds at one time stand at different places.
use Rattle.std.proofs.Common.{ℕ, ◌+◌, ◌<◌, ◌≢◌, ℤ, pos, negsuc, ◌+ℤ◌, ◌<ℤ◌, arith}
use Rattle.playing.specs.Tape.{round, slot}
use Rattle.std.proofs.lemmas.Int.{ints}

round_small : (n : ℤ) → round n < 1024
round_small (pos n) = omega arith
round_small (negsuc n) = omega arith

pub slot_inside : (v : ℕ) (n : ℤ) → v < 16 → slot v n < 16384
slot_inside v n h = omega (arith, round_small n)

pub other_node : (v w : ℕ) (m n : ℤ) → w ≢ v → slot w m ≢ slot v n
other_node v w m n h = omega (arith, round_small m, round_small n)

round_apart : (m n : ℤ) → m <ℤ n → n <ℤ (m +ℤ pos 1024) → round m ≢ round n
round_apart (pos a) (pos b) h g = let p : a < b = omega (arith, ints) in let q : b < a + 1024 = omega (arith, ints) in omega arith
round_apart (pos a) (negsuc b) h g = absurd (omega (arith, ints))
round_apart (negsuc a) (pos b) h g = let q : a + b + 1 < 1024 = omega (arith, ints) in omega arith
round_apart (negsuc a) (negsuc b) h g = let p : b < a = omega (arith, ints) in let q : a < b + 1024 = omega (arith, ints) in omega arith

pub other_frame : (v : ℕ) (m n : ℤ) → m <ℤ n → n <ℤ (m +ℤ pos 1024) → slot v m ≢ slot v n
other_frame v m n h g = omega (arith, round_apart m n h g)
