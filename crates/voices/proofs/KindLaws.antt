-- The four kinds and the two layers keep the laws of a unit, and none looks back further than 63 frames.
use Rattle.std.proofs.Common.{◌≡◌, ℕ, zero, suc, ◌+◌, ◌-◌, ◌/◌, ◌≤◌, max, Bool, true, false, cond, List, [], ◌∷◌, ◌++◌, map, length, get_or, replicate, ℤ, pos, ◌+ℤ◌, ◌*ℤ◌, refl, ap, ◌∙◌, ap₂, zero-le, arith}
use lib.IntN.{*ℤ-zero, zero-*ℤ}
use Rattle.frames.specs.Samples.{clamped, divided, scaled, silence, total}
use Rattle.frames.specs.declared.samples.Frame.{Frame}
use Rattle.std.proofs.lemmas.List.{length-map, map-append, take-map}
use Rattle.std.specs.List.{range_with_len}
use Rattle.voices.proofs.Pasts.{rule_lawful}
use Rattle.voices.specs.Kinds.{delay_rule, fir_rule, greatest, limit_rule, pan_rule, pan_unit, trim_over, trimmed, weight}
use Rattle.voices.specs.Meaning.{Meaning, Lawful}
use Rattle.voices.specs.Rules.{by_rule_after}

total_none : {X : Type 0} (f : X → ℤ) → ((x : X) → f x ≡ pos 0) → (xs : List X) → total f xs ≡ pos 0
total_none f h [] = refl
total_none f h (x ∷ xs) = ap₂ ◌+ℤ◌ (h x) (total_none f h xs)

pub fir_silent : (taps : List ℤ) → fir_rule taps (λ _. silence) ≡ silence
fir_silent taps =
    let z = total_none (λ k. get_or taps k (pos 0) *ℤ pos 0) (λ k. *ℤ-zero (get_or taps k (pos 0))) (range_with_len 0 (length taps)) in
    ap (λ t. record { left = clamped (divided t); right = clamped (divided t) }) z

-- how late a fir is by its number of taps
pub fir_late : (count : ℕ) → count ≤ 31 → (count - 1) / 2 ≤ 15
fir_late count h = omega arith

pub fir_late_bound : (count : ℕ) → count ≤ 31 → (count - 1) / 2 ≤ 63
fir_late_bound count h = omega arith

greatest_none : {X : Type 0} (f : X → ℕ) → ((x : X) → f x ≡ 0) → (xs : List X) → greatest f xs ≡ 0
greatest_none f h [] = refl
greatest_none f h (x ∷ xs) = let e = h x in let r = greatest_none f h xs in omega arith

pub limit_silent : (lookahead ceiling : ℕ) → limit_rule lookahead ceiling (λ _. silence) ≡ silence
limit_silent lookahead ceiling = rw (greatest_none (λ (k : ℕ). max 0 0) (λ k. refl) (range_with_len 0 (lookahead + 1)))

scaled_nothing : (gain : ℤ) → scaled (pos 0) gain ≡ pos 0
scaled_nothing gain = ap divided (zero-*ℤ gain)

pub pan_silent : (position : ℕ) → pan_rule position (λ _. silence) ≡ silence
pan_silent position = ap₂ (λ l r. record { left = l; right = r }) (scaled_nothing (pos (weight position))) (scaled_nothing (pos (weight (256 - position))))

-- a pan is always at rest
pub pan_lawful : (position : ℕ) → Lawful silence (pan_unit position)
pan_lawful position =
    let l = rule_lawful silence (pan_rule position) 0 (λ _. silence) zero-le (pan_silent position) in
    record {
      late_bound = l.late_bound;
      voice_length = l.voice_length;
      present_length = l.voice_length;
      voice_begins = l.voice_begins;
      voice_waits = l.voice_waits;
    }

pub trimmed_silent : (gain : ℤ) → trimmed gain silence ≡ silence
trimmed_silent gain = ap (λ z. record { left = clamped z; right = clamped z }) (scaled_nothing gain)

map_replicate : {X Y : Type 0} (f : X → Y) (n : ℕ) (x : X) → map f (replicate n x) ≡ replicate n (f x)
map_replicate f zero x = refl
map_replicate f (suc n) x = ap (λ l. f x ∷ l) (map_replicate f n x)

pub trim_lawful : (gain : ℤ) (m : Meaning Frame) → Lawful silence m → Lawful silence (trim_over gain m)
trim_lawful gain m l = record {
  late_bound = l.late_bound;
  voice_length = λ x. length-map (m.voice x) (trimmed gain) ∙ l.voice_length x;
  present_length = λ x. length-map (m.present x) (trimmed gain) ∙ l.present_length x;
  voice_begins = λ x y. take-map (trimmed gain) (length x) (m.voice (x ++ y)) ∙ ap (map (trimmed gain)) (l.voice_begins x y);
  voice_waits = λ k x. ap (map (trimmed gain)) (l.voice_waits k x) ∙ map-append (trimmed gain) (replicate k silence) (m.voice x) ∙ ap (λ s. s ++ map (trimmed gain) (m.voice x)) (map_replicate (trimmed gain) k silence ∙ ap (replicate k) (trimmed_silent gain));
}

-- what a bypass means when it has heard a past
pub bypass_lawful : (on : Bool) (past : ℕ → Frame) (m : Meaning Frame) → Lawful silence m → Lawful silence (cond on (by_rule_after silence m.late (delay_rule m.late) past) m)
bypass_lawful true past m l = rule_lawful silence (delay_rule m.late) m.late past l.late_bound refl
bypass_lawful false past m l = l

pub bypass_within : (on : Bool) (past : ℕ → Frame) (m : Meaning Frame) (most : ℕ) → m.late ≤ most → (cond on (by_rule_after silence m.late (delay_rule m.late) past) m).late ≤ most
bypass_within true past m most h = h
bypass_within false past m most h = h
