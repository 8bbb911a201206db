-- How far back the rules look, and what follows for a unit that keeps the newest 64 frames.
use Rattle.std.proofs.Common.{◌≡◌, ℕ, zero, suc, ◌+◌, ◌<◌, ◌≤◌, max, cond, eqb, leb, List, [], ◌∷◌, ◌++◌, map, length, get_or, ℤ, pos, ◌+ℤ◌, ◌*ℤ◌, nat_abs, sym, refl, ap, ◌∙◌, ap₂, arith}
use lib.Signed.{quot_z}
use mathlib.Core.Path.{fun_ext}
use Rattle.frames.specs.Samples.{clamped, divided, silence, total}
use Rattle.frames.specs.declared.samples.Frame.{Frame}
use Rattle.frames.proofs.Totals.{total_push}
use Rattle.std.proofs.lemmas.List.FromFn.{map-range_with_len_more}
use Rattle.std.proofs.lemmas.List.{map-id}
use Rattle.std.specs.List.{range_with_len}
use Rattle.voices.proofs.Pasts.{after_agree, voice_is_after}
use Rattle.voices.specs.Kinds.{delay_rule, each_side, fir_rule, greatest, limit_rule, pan_rule, peak}
use Rattle.voices.specs.Rules.{by_rule, by_rule_after, then_heard, voice_after, voice_by}

-- pasts that agree on the newest frame and the m before it get the same answer
abbrev pub Looks : ℕ → ((ℕ → Frame) → Frame) → Type 0
Looks m rule = (p q : ℕ → Frame) → ((k : ℕ) → k ≤ m → p k ≡ q k) → rule p ≡ rule q

-- functions that agree on the numbers counted give the same list
map_counting_same : {Y : Type 0} (f g : ℕ → Y) (a n : ℕ) → ((k : ℕ) → k < a + n → f k ≡ g k) → map f (range_with_len a n) ≡ map g (range_with_len a n)
map_counting_same f g a zero h = refl
map_counting_same f g a (suc n) h = ap₂ ◌∷◌ (h a (omega arith)) (map_counting_same f g (a + 1) n (λ k l. h k (omega arith)))

total_by_map : {X : Type 0} (f : X → ℤ) (xs : List X) → total f xs ≡ total (λ z. z) (map f xs)
total_by_map f [] = refl
total_by_map f (x ∷ xs) = ap (λ t. f x +ℤ t) (total_by_map f xs)

greatest_by_map : {X : Type 0} (f : X → ℕ) (xs : List X) → greatest f xs ≡ greatest (λ n. n) (map f xs)
greatest_by_map f [] = refl
greatest_by_map f (x ∷ xs) = ap (max (f x)) (greatest_by_map f xs)

pub total_counting_same : (f g : ℕ → ℤ) (n : ℕ) → ((k : ℕ) → k < n → f k ≡ g k) → total f (range_with_len 0 n) ≡ total g (range_with_len 0 n)
total_counting_same f g n h =
    total_by_map f (range_with_len 0 n) ∙ ap (total (λ z. z)) (map_counting_same f g 0 n (λ k l. h k (omega arith))) ∙ sym (total_by_map g (range_with_len 0 n))

pub greatest_counting_same : (f g : ℕ → ℕ) (n : ℕ) → ((k : ℕ) → k < n → f k ≡ g k) → greatest f (range_with_len 0 n) ≡ greatest g (range_with_len 0 n)
greatest_counting_same f g n h =
    greatest_by_map f (range_with_len 0 n) ∙ ap (greatest (λ z. z)) (map_counting_same f g 0 n (λ k l. h k (omega arith))) ∙ sym (greatest_by_map g (range_with_len 0 n))

-- counted one further
counting_more : (n : ℕ) → range_with_len 0 (n + 1) ≡ range_with_len 0 n ++ n ∷ []
counting_more n = sym (map-id (range_with_len 0 (n + 1))) ∙ map-range_with_len_more (λ k. k) 0 n n (omega arith) ∙ ap (λ l. l ++ n ∷ []) (map-id (range_with_len 0 n))

pub total_counting_more : (f : ℕ → ℤ) (n : ℕ) → total f (range_with_len 0 (n + 1)) ≡ total f (range_with_len 0 n) +ℤ f n
total_counting_more f n = ap (total f) (counting_more n) ∙ total_push f (range_with_len 0 n) n

pub delay_looks : (frames : ℕ) → frames ≤ 63 → Looks 63 (delay_rule frames)
delay_looks frames h p q agree = agree frames h

pub fir_looks : (taps : List ℤ) → length taps ≤ 64 → Looks 63 (fir_rule taps)
fir_looks taps h p q agree =
    ap₂ (λ l r. record { left = clamped (divided l); right = clamped (divided r) })
    (total_counting_same _ _ (length taps) (λ k l. ap (λ f. get_or taps k (pos 0) *ℤ f.left) (agree k (omega arith))))
    (total_counting_same _ _ (length taps) (λ k l. ap (λ f. get_or taps k (pos 0) *ℤ f.right) (agree k (omega arith))))

peak_looks : (lookahead : ℕ) → lookahead ≤ 63 → (p q : ℕ → Frame) → ((k : ℕ) → k ≤ 63 → p k ≡ q k) → peak lookahead p ≡ peak lookahead q
peak_looks lookahead h p q agree =
    greatest_counting_same _ _ (lookahead + 1) (λ k l. ap (λ f. max (nat_abs f.left) (nat_abs f.right)) (agree k (omega arith)))

pub limit_looks : (lookahead ceiling : ℕ) → lookahead ≤ 63 → Looks 63 (limit_rule lookahead ceiling)
limit_looks lookahead ceiling h p q agree =
    ap₂ (λ n f. cond (eqb n 0) silence (cond (leb n ceiling) f (each_side (λ side. quot_z (side f *ℤ pos ceiling) (pos n)))))
    (peak_looks lookahead h p q agree) (agree lookahead h)

-- a unit that keeps its newest 64 frames hears one more
pub steps_on : (rule : (ℕ → Frame) → Frame) → Looks 63 rule → (old new : ℕ → Frame) (f r : Frame) → ((k : ℕ) → k < 64 → new k ≡ then_heard old f k) → r ≡ rule new
    → (x : List Frame) → voice_after rule old (f ∷ x) ≡ r ∷ voice_after rule new x
steps_on rule looks old new f r agree e x =
    ap₂ ◌∷◌ (looks (then_heard old f) new (λ k h. sym (agree k (omega arith))) ∙ sym e)
    (after_agree silence rule 63 looks (then_heard old f) new (λ k h. sym (agree k (omega arith))) x)

-- a unit that has heard nothing is at rest
pub rests : (rule : (ℕ → Frame) → Frame) (past : ℕ → Frame) → past ≡ (λ _. silence) → voice_after rule past ≡ voice_by silence rule
rests rule past e = ap (voice_after rule) e ∙ fun_ext (λ x. sym (voice_is_after silence rule x))

pub fresh : (late : ℕ) (rule : (ℕ → Frame) → Frame) (past : ℕ → Frame) → past ≡ (λ _. silence) → by_rule_after silence late rule past ≡ by_rule silence late rule
fresh late rule past e = ap (λ p. record { late = late; voice = voice_by silence rule; present = p }) (rests rule past e)

-- a rule on the newest frame alone is always at rest
pub newest_steps : (rule : (ℕ → Frame) → Frame) → Looks 0 rule → (f r : Frame) → r ≡ rule (λ _. f) → (x : List Frame) → voice_by silence rule (f ∷ x) ≡ r ∷ voice_by silence rule x
newest_steps rule looks f r e x =
    let newest : (k : ℕ) → k ≤ 0 → then_heard (λ _. silence) f k ≡ f = at in
    voice_is_after silence rule (f ∷ x)
    ∙ ap₂ ◌∷◌ (looks (then_heard (λ _. silence) f) (λ _. f) newest ∙ sym e)
    (after_agree silence rule 0 looks (then_heard (λ _. silence) f) (λ _. silence) (λ k h. absurd (omega arith)) x ∙ sym (voice_is_after silence rule x))
  where
    at : (k : ℕ) → k ≤ 0 → then_heard (λ _. silence) f k ≡ f
    at zero h = refl
    at (suc k) h = absurd (omega arith)

pub pan_looks : (position : ℕ) → Looks 0 (pan_rule position)
pan_looks position p q agree = ap (λ f. pan_rule position (λ _. f)) (agree 0 (omega arith))
