-- The four kinds of unit and the two layers, each by its rule. A rule answers to the past: `past k` is the frame of k
-- frames before, and frames before the first are silent.
use Rattle.std.specs.Prelude.{ℕ, zero, suc, ◌+◌, ◌-◌, ◌*◌, ◌/◌, ◌≤◌, max, Bool, cond, List, [], ◌∷◌, map, length, ℤ, pos, ◌*ℤ◌, ◌==◌, int_div, nat_le, slice_index_or, unsigned_abs}
use Rattle.frames.specs.Samples.{clamped, divided, scaled, silence, total}
use Rattle.frames.specs.declared.samples.Frame.{Frame}
use Rattle.std.specs.List.{range_with_len}
use Rattle.voices.specs.Meaning.{Meaning}
use Rattle.voices.specs.Rules.{by_rule}

-- A frame whose two sides are made in one way.
abbrev pub each_side : ((Frame → ℤ) → ℤ) → Frame
each_side make = record { left = make (λ f. f.left); right = make (λ f. f.right) }

-- delay: the frame of K frames before.
abbrev pub delay_rule : ℕ → (ℕ → Frame) → Frame
delay_rule frames past = past frames

-- fir: the sum of tap k times the frame of k frames before, k from 0, divided down by 16,384 and clamped.
abbrev pub fir_rule : List ℤ → (ℕ → Frame) → Frame
fir_rule taps past =
    each_side (λ side. clamped (divided (total (λ k. slice_index_or taps k (pos 0) *ℤ side (past k)) (range_with_len 0 (length taps)))))

-- The greatest of some numbers, 0 without any.
abbrev pub greatest : {X : Type 0} → (X → ℕ) → List X → ℕ
greatest f [] = 0
greatest f (x ∷ xs) = max (f x) (greatest f xs)

-- The greatest absolute sample, both sides, of the newest frame and the A before it.
abbrev pub peak : ℕ → (ℕ → Frame) → ℕ
peak lookahead past = greatest (λ k. max (unsigned_abs (past k).left) (unsigned_abs (past k).right)) (range_with_len 0 (lookahead + 1))

-- limit: a peak of 0 gives silence; a peak of at most the ceiling gives the frame of A frames before; else each side is
-- that frame times the ceiling over the peak, rounded toward zero.
abbrev pub limit_rule : ℕ → ℕ → (ℕ → Frame) → Frame
limit_rule lookahead ceiling past =
    cond (peak lookahead past == 0) silence
    (cond (nat_le (peak lookahead past) ceiling) (past lookahead)
    (each_side (λ side. int_div (side (past lookahead) *ℤ pos ceiling) (pos (peak lookahead past)))))

-- The largest whole number, of those up to `most`, whose square is at most n.
unfoldable pub root : ℕ → ℕ → ℕ
root zero n = 0
root (suc most) n = cond (nat_le (suc most * suc most) n) (suc most) (root most n)

-- The weight of pan position p: the largest whole a with a² at most 1,048,576 × (256 − p). None is above 16,384.
unfoldable pub weight : ℕ → ℕ
weight p = root 16384 (1048576 * (256 - p))

-- The rule of the weights, in its own words.
abbrev pub Weighs : ℕ → ℕ → Type 0
Weighs p a = (a * a ≤ 1048576 * (256 - p)) × ((b : ℕ) → b * b ≤ 1048576 * (256 - p) → b ≤ a)

-- pan: left is scaled by weight P, right by weight 256 − P.
abbrev pub pan_rule : ℕ → (ℕ → Frame) → Frame
pan_rule position past = record {
  left = scaled (past 0).left (pos (weight position));
  right = scaled (past 0).right (pos (weight (256 - position)));
}

-- The four kinds, at rest. A fir of T taps is (T − 1)/2 late and a limit its lookahead; a pan is not late, and neither
-- is a delay, which is an echo.
abbrev pub fir_unit : List ℤ → Meaning Frame
fir_unit taps = by_rule silence ((length taps - 1) / 2) (fir_rule taps)

abbrev pub limit_unit : ℕ → ℕ → Meaning Frame
limit_unit lookahead ceiling = by_rule silence lookahead (limit_rule lookahead ceiling)

abbrev pub pan_unit : ℕ → Meaning Frame
pan_unit position = by_rule silence 0 (pan_rule position)

abbrev pub delay_unit : ℕ → Meaning Frame
delay_unit frames = by_rule silence 0 (delay_rule frames)

-- trim: scales what the unit below answers, and clamps.
abbrev pub trimmed : ℤ → Frame → Frame
trimmed gain f = each_side (λ side. clamped (scaled (side f) gain))

abbrev pub trim_over : ℤ → Meaning Frame → Meaning Frame
trim_over gain m = record {
  late = m.late;
  voice = λ x. map (trimmed gain) (m.voice x);
  present = λ x. map (trimmed gain) (m.present x);
}

-- bypass: when on, the input of as many frames before as the unit below is late; else what the unit below answers.
abbrev pub bypass_over : Bool → Meaning Frame → Meaning Frame
bypass_over on m = cond on (by_rule silence m.late (delay_rule m.late)) m
