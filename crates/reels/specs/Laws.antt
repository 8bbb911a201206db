-- That the click reel keeps the laws of a reel: a proof, which no reader of the definitions needs.
use Rattle.std.specs.Prelude.{◌≡◌, ℕ, ◌+◌, ◌*◌, ◌≤◌, true, cond, ◌==◌, nat_lt, refl}
use Rattle.std.proofs.Common.{arith}
use Rattle.frames.specs.Samples.{silence}
use Rattle.reels.specs.Clicks.{click, clicks}
use Rattle.reels.specs.Tracks.{ReelLaws}
use Rattle.std.proofs.lemmas.Bool.{cond_both, cond-false, cond-true, le-ltb, ltb-true, ne_eqb}

past_click : (track n : ℕ) → cond (nat_lt track 8) (8 * track + 1) 0 ≤ n → nat_lt track 8 ≡ true → cond (n == 8 * track) click silence ≡ silence
past_click track n h e =
    let c = cond-true (nat_lt track 8) (8 * track + 1) 0 e in
    cond-false (n == 8 * track) click silence (ne_eqb n (8 * track) (omega arith))

pub clicks_lawful : ReelLaws clicks
clicks_lawful = record {
  bounded = λ track. cond_both (nat_lt track 8) (8 * track + 1) 0 (λ k. k ≤ 2147483647) (λ e. omega (arith, ltb-true track 8 e)) (λ _. omega arith);
  eight = λ track h. cond-false (nat_lt track 8) (8 * track + 1) 0 (le-ltb track 8 h);
  silent = λ track n h. cond_both (nat_lt track 8) (cond (n == 8 * track) click silence) silence (λ f. f ≡ silence) (past_click track n h) (λ _. refl);
}
