-- The inputs of nodes: they depend on the starts of lines in alone, and are silent where those are.
use Rattle.std.proofs.Common.{◌≡◌, ℕ, ◌+◌, ◌≤◌, List, [], ◌∷◌, map, ℤ, pos, negsuc, ◌+ℤ◌, ◌-ℤ◌, neg_ℤ, sym, refl, ap, ◌∙◌, ap₂, arith}
use borrow.Author.Differences.{down}
use lib.IntN.{zero-*ℤ}
use Rattle.frames.specs.Buses.{bus}
use Rattle.frames.specs.Samples.{clamped, divided, scaled, silence, total}
use Rattle.frames.specs.declared.samples.Frame.{Frame}
use Rattle.frames.specs.declared.samples.Part.{Part}
use Rattle.reels.specs.Tracks.{Tracks}
use Rattle.std.proofs.lemmas.Bool.{true≢false}
use Rattle.session.specs.Plan.{is_bus, KeepsRules, line, lines_into, node, Plan}
use Rattle.session.specs.declared.nodes.Source.{Source}
use Rattle.session.specs.declared.nodes.Source.TheVariants.{Track, Bus}
use Rattle.signals.proofs.Lines.{EachInto, all_lines, map_same, none_of}
use Rattle.signals.specs.Signals.{Signal, SilentBefore, brought, input, track_signal}
use Rattle.std.proofs.ByRecursion.{All-map, All-weaker}
use Rattle.std.proofs.lemmas.Int.{ints}
use Rattle.std.specs.List.{AllByRecursion}

-- The input of a run is the input of another, `later` frames later, if so are the frames of all lines in and a track's
-- input comes no later.
pub input_same : (p : Plan) (reel : Tracks) (d e : ℕ → ℕ) (x y : ℕ → Signal Frame) (v later : ℕ) (source : Source)
    → ((track : ℕ) → source ≡ Track track → later ≡ 0)
    → EachInto p v (λ i. (n : ℤ) → y (line p i).start (n -ℤ pos (e i)) ≡ x (line p i).start (n -ℤ pos later -ℤ pos (d i)))
    → (n : ℤ) → input p reel e y v source n ≡ input p reel d x v source (n -ℤ pos later)
input_same p reel d e x y v later (Track track) now h n = ap (track_signal reel track) (omega (arith, ints, now track refl))
input_same p reel d e x y v later Bus now h n =
    ap bus (map_same (brought p e y n) (brought p d x (n -ℤ pos later)) (lines_into p v)
    (all_lines p v (λ i. brought p e y n i ≡ brought p d x (n -ℤ pos later) i)
    (λ i b at. ap (λ f. record { frame = f; gain = (line p i).gain }) (h i b at n))))

-- No line ends at a track.
pub track_alone : (p : Plan) → KeepsRules p → (v track : ℕ) → (node p v).source ≡ Track track → lines_into p v ≡ []
track_alone p rules v track e =
    none_of (lines_into p v) (all_lines p v (λ _. ⊥) (λ i b at.
    let same : (node p (line p i).end).source ≡ (node p v).source = ap (λ u. (node p u).source) at in
    true≢false (sym (rules.ends_at_bus i b) ∙ ap is_bus (same ∙ e))))

-- Silence adds nothing to either side of a bus.
nothing_brought : (side : Frame → ℤ) → side silence ≡ pos 0 → (parts : List Part) → AllByRecursion (λ part. part.frame ≡ silence) parts
    → total (λ part. scaled (side part.frame) part.gain) parts ≡ pos 0
nothing_brought side none [] h = refl
nothing_brought side none (part ∷ parts) h =
    ap₂ ◌+ℤ◌
    (ap (λ f. scaled (side f) part.gain) h.0 ∙ ap (λ z. scaled z part.gain) none ∙ ap divided (zero-*ℤ part.gain))
    (nothing_brought side none parts h.1)

bus_silent : (parts : List Part) → AllByRecursion (λ part. part.frame ≡ silence) parts → bus parts ≡ silence
bus_silent parts h =
    ap₂ (λ l r. record { left = clamped l; right = clamped r })
    (nothing_brought (λ f. f.left) refl parts h) (nothing_brought (λ f. f.right) refl parts h)

-- The signal is silent until `lead` frames before 0.
abbrev pub SilentUntil : Signal Frame → ℕ → Type 0
SilentUntil x lead = SilentBefore silence x (neg_ℤ (pos lead))

pub silent_lead : (x : Signal Frame) (k lead : ℕ) → SilentUntil x k → k ≤ lead → SilentUntil x lead
silent_lead x k lead s h n l = s n (omega (arith, ints))

-- An input is silent as long as the starts of all lines in are.
pub input_silent : (p : Plan) (reel : Tracks) (delay : ℕ → ℕ) (x : ℕ → Signal Frame) (v lead : ℕ)
    → AllByRecursion (λ i. SilentUntil (x (line p i).start) lead) (lines_into p v)
    → (source : Source) → SilentUntil (input p reel delay x v source) lead
input_silent p reel delay x v lead h (Track track) (pos n) l = absurd (omega (arith, ints))
input_silent p reel delay x v lead h (Track track) (negsuc n) l = refl
input_silent p reel delay x v lead h Bus n l =
    bus_silent (map (brought p delay x n) (lines_into p v))
    (All-map (λ part. part.frame ≡ silence) (brought p delay x n) (lines_into p v)
    (All-weaker (λ i. SilentUntil (x (line p i).start) lead) (λ i. (brought p delay x n i).frame ≡ silence)
    (λ i s. s (n -ℤ pos (delay i)) (omega (arith, ints))) (lines_into p v) h))

-- Of signals that each begin somewhere, none begins before some number.
pub common_lead : (x : ℕ → Signal Frame) (xs : List ℕ) → AllByRecursion (λ i. (b : ℤ) × SilentBefore silence (x i) b) xs
    → (lead : ℕ) × AllByRecursion (λ i. SilentUntil (x i) lead) xs
common_lead x [] h = (0, tt)
common_lead x (i ∷ xs) h =
    let rest = common_lead x xs h.1 in
    let lead = down h.0.0 + rest.0 in (
      lead,
      (
        (λ n l. h.0.1 n (omega (arith, ints))),
        All-weaker (λ j. SilentUntil (x j) rest.0) (λ j. SilentUntil (x j) lead)
            (λ j s. silent_lead (x j) rest.0 lead s (omega arith)) xs rest.1,
      ),
    )
