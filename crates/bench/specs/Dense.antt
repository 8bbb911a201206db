-- A reel whose every frame is loud.
use Rattle.std.specs.Prelude.{ℕ, ◌+◌, ◌*◌, ◌%◌, ◌≤◌, cond, ℤ, pos, ◌-ℤ◌, nat_lt}
use Rattle.std.proofs.Common.{arith}
use Rattle.frames.specs.Samples.{silence}
use Rattle.frames.specs.declared.samples.Frame.{Frame}
use Rattle.reels.specs.Tracks.{ReelLaws, Tracks}
use Rattle.std.proofs.lemmas.Bool.{cond_both, cond-false, le-ltb}

-- A sample from −30,000 to 30,000.
abbrev pub saw : ℕ → ℤ
saw x = pos (x % 60001) -ℤ pos 30000

abbrev pub loud : ℕ → ℕ → Frame
loud track n = record { left = saw (7919 * n + 4099 * track); right = saw (10007 * n + 911 * track) }

-- Eight tracks of the greatest length.
abbrev pub dense : Tracks
dense = record {
  length_of = λ track. cond (nat_lt track 8) 2147483647 0;
  frame_of = λ track n. cond (nat_lt n (cond (nat_lt track 8) 2147483647 0)) (loud track n) silence;
}

pub dense_lawful : ReelLaws dense
dense_lawful = record {
  bounded = λ track. cond_both (nat_lt track 8) 2147483647 0 (λ k. k ≤ 2147483647) (λ _. omega arith) (λ _. omega arith);
  eight = λ track h. cond-false (nat_lt track 8) 2147483647 0 (le-ltb track 8 h);
  silent = λ track n h. cond-false (nat_lt n (cond (nat_lt track 8) 2147483647 0)) (loud track n) silence (le-ltb n (cond (nat_lt track 8) 2147483647 0) h);
}
