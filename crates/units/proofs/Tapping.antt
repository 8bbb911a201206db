-- The sums of a fir, tap by tap.
use Rattle.std.proofs.Common.{◌≡◌, ℕ, ◌+◌, ◌*◌, ◌<◌, ◌≤◌, List, get_or, ℤ, pos, ◌+ℤ◌, ◌*ℤ◌, nat_abs, sym, ap, ◌∙◌, arith, w64, SFits, to_z, of_z}
use borrow.Author.Differences.{abs_is}
use Rattle.std.proofs.lemmas.Int.{ints, to_z-of_z}
use Rattle.frames.specs.declared.samples.Frame.{Frame}
use Rattle.units.specs.Taps.{tapped}
use Rattle.voices.proofs.Looks.{total_counting_more}

-- one tap further
pub tapped_more : (taps : List ℤ) (side : Frame → ℤ) (past : ℕ → Frame) (k : ℕ) (f : Frame) (r : ℤ) → f ≡ past k → r ≡ get_or taps k (pos 0) *ℤ side f
    → tapped taps side past (k + 1) ≡ tapped taps side past k +ℤ r
tapped_more taps side past k f r e v = total_counting_more _ k ∙ ap (λ t. tapped taps side past k +ℤ t) (ap (λ g. get_or taps k (pos 0) *ℤ side g) (sym e) ∙ sym v)

-- a running sum of at most 31 products does not wrap
pub added : (a r t u : ℤ) (k : ℕ) → k < 31 → nat_abs a ≤ 1073741824 * k → nat_abs r ≤ 1073741824 → a ≡ t → u ≡ t +ℤ r
    → (to_z w64 (of_z w64 (a +ℤ to_z w64 (of_z w64 r))) ≡ u) × (nat_abs (to_z w64 (of_z w64 (a +ℤ to_z w64 (of_z w64 r)))) ≤ 1073741824 * (k + 1))
added a r t u k h p q e f =
    let x : SFits w64 r = omega (arith, ints, abs_is) in
    let y : SFits w64 (a +ℤ r) = omega (arith, ints, abs_is) in
    let z = ap (λ m. to_z w64 (of_z w64 (a +ℤ m))) (to_z-of_z w64 r x) ∙ to_z-of_z w64 (a +ℤ r) y in
    (z ∙ ap (λ m. m +ℤ r) e ∙ sym f, rw z (omega (arith, ints, abs_is)))
