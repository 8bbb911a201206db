-- The two sessions of specs/Examples.antt.
use Rattle.std.proofs.Common.{◌≡◌, ℕ, zero, suc, ◌+◌, ◌*◌, ◌<◌, true, eqb, List, [], ◌∷◌, ℤ, pos, negsuc, ◌-ℤ◌, Some, None, sym, refl, ap, ◌∙◌, ap₂, arith}
use Rattle.frames.specs.Buses.{bus}
use Rattle.frames.specs.Samples.{silence}
use Rattle.frames.specs.declared.samples.Frame.{Frame}
use Rattle.racks.specs.Rack.{unit}
use Rattle.reels.specs.Clicks.{click, clicks}
use Rattle.session.specs.Plan.{is_bus, KeepsRules, line, lines_into, node}
use Rattle.session.specs.declared.nodes.Node.{Node}
use Rattle.signals.specs.Examples.{Comb, HeldLonger, a_frame_longer, late_and_plain, one_and_other, output_last, twins, two_into_one}
use Rattle.signals.specs.Patches.{Ordered, OurLatenesses, lateness, our_delay}
use Rattle.signals.specs.Signals.{Runs, Signal, track_signal}
use Rattle.std.proofs.lemmas.Int.{ints}
use Rattle.std.proofs.lemmas.Bool.{cond-false, ne_eqb}
use Rattle.voices.specs.Meaning.{Meaning}

below_two : (P : ℕ → Type 0) → P 0 → P 1 → (i : ℕ) → i < 2 → P i
below_two P a b zero h = a
below_two P a b (suc zero) h = b
below_two P a b (suc (suc i)) h = absurd (omega arith)

below_three : (P : ℕ → Type 0) → P 0 → P 1 → P 2 → (v : ℕ) → v < 3 → P v
below_three P a b c zero h = a
below_three P a b c (suc v) h = below_two (λ i. P (suc i)) b c v (omega arith)

module _ (a b : Node) (plain : b.unit ≡ None) where
  unit_at_one : (s v : ℕ) → v < 3 → (node (two_into_one a b) v).unit ≡ Some s → v ≡ 1
  unit_at_one s = below_three (λ v. (node (two_into_one a b) v).unit ≡ Some s → v ≡ 1) (λ e. cc) (λ e. refl) (λ e. cc)

  two_keeps : KeepsRules (two_into_one a b)
  two_keeps = record {
    few_nodes = omega arith;
    few_lines = omega arith;
    starts = below_two (λ i. (line (two_into_one a b) i).start < 3) (omega arith) (omega arith);
    ends = below_two (λ i. (line (two_into_one a b) i).end < 3) (omega arith) (omega arith);
    ends_at_bus = below_two (λ i. is_bus (node (two_into_one a b) (line (two_into_one a b) i).end).source ≡ true) refl refl;
    one_node = λ v w s h l e f. unit_at_one s v h e ∙ sym (unit_at_one s w l f);
  }

two_placed : (a b : Node) → Ordered (two_into_one a b) output_last
two_placed a b = record {
  inside = below_three (λ v. output_last v < 3) (omega arith) (omega arith) (omega arith);
  before = below_two (λ i. output_last (line (two_into_one a b) i).start < output_last (line (two_into_one a b) i).end) (omega arith) (omega arith);
}

-- What the two click tracks make at the output, one frame of each.
both : Frame → Frame → Frame
both f g = bus (record { frame = f; gain = pos 16384 } ∷ record { frame = g; gain = pos 16384 } ∷ [])

twins_give : (delay : ℕ → ℕ) (ahead : Meaning Frame → ℕ) (x : ℕ → Signal Frame) → Runs twins [] clicks delay ahead x
    → (n : ℤ) → x 0 n ≡ both (track_signal clicks 0 (n -ℤ pos (delay 0))) (track_signal clicks 0 (n -ℤ pos (delay 1)))
unfolding both
twins_give delay ahead x runs n =
    runs.follows 0 n (omega arith)
    ∙ ap₂ both (runs.follows 1 (n -ℤ pos (delay 0)) (omega arith)) (runs.follows 2 (n -ℤ pos (delay 1)) (omega arith))

after_click : (n : ℕ) → track_signal clicks 0 (pos (suc n)) ≡ silence
after_click n = cond-false (eqb (suc n) (8 * 0)) click silence (ne_eqb (suc n) (8 * 0) (λ e. omega arith))

-- In the mix the output's left side is 32,000 or 0.
not_once : (n : ℤ) → (both (track_signal clicks 0 n) (track_signal clicks 0 n)).left ≡ pos 16000 → ⊥
unfolding both
not_once (pos zero) e = omega (arith, ints)
not_once (pos (suc n)) e = omega (arith, ints, ap (λ f. (both f f).left) (after_click n))
not_once (negsuc n) e = omega (arith, ints)

pub comb : Comb
unfolding both
comb = record {
  keeps = two_keeps _ _ refl;
  placed = two_placed _ _;
  unaligned = λ arrival h.
      omega (arith, h.meets 0 (omega arith), h.meets 1 (omega arith), h.alone 1 (omega arith) refl, h.alone 2 (omega arith) refl);
  mix = λ x ideal. twins_give _ _ x ideal (pos 0);
  twice = λ y under. (twins_give _ _ y under (pos 0), twins_give _ _ y under (pos 3));
  not_the_mix = λ x y ideal under m same.
      let at : pos 0 -ℤ m -ℤ pos 0 ≡ pos 0 -ℤ m = omega (arith, ints) in
      not_once (pos 0 -ℤ m) (ap (λ f. f.left)
      (ap (λ k. both (track_signal clicks 0 k) (track_signal clicks 0 k)) (sym at)
      ∙ sym (twins_give _ _ x ideal (pos 0 -ℤ m)) ∙ sym (same (pos 0)) ∙ twins_give _ _ y under (pos 0)));
}

module _ (rack : List (Meaning Frame)) (forty : (unit rack 0).late ≡ 40) where
  our_numbers : (late : ℕ → ℕ) → OurLatenesses late_and_plain rack late → (late 0 ≡ 40) × (late 1 ≡ 40) × (late 2 ≡ 0)
  our_numbers late h = omega (arith, h 0 (omega arith), h 1 (omega arith), h 2 (omega arith))

pub held_longer : HeldLonger
held_longer = record {
  keeps = two_keeps _ _ refl;
  placed = two_placed _ _;
  ours = λ rack forty late h. omega (arith, our_numbers rack forty late h);
  longer = λ rack forty late h.
      below_two (λ i. a_frame_longer i ≡ our_delay late_and_plain late i + 1)
      (omega (arith, our_numbers rack forty late h)) (omega (arith, our_numbers rack forty late h));
  rival = λ rack forty. (
    record {
      meets = below_two (λ i.
          lateness late_and_plain rack (one_and_other 41 0) (line late_and_plain i).start + a_frame_longer i ≡ one_and_other 41 0 (line late_and_plain i).end)
          (omega arith) (omega arith);
      alone = below_three (λ v. lines_into late_and_plain v ≡ [] → one_and_other 41 0 v ≡ 0) (λ e. cc) (λ _. refl) (λ _. refl);
    },
    refl,
  );
}
