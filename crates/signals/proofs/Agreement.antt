-- Two runs of one plan that agree at each node, but for a number of frames.
use Rattle.std.proofs.Common.{◌≡◌, ℕ, ◌+◌, ◌<◌, List, [], length, ℤ, pos, ◌+ℤ◌, ◌-ℤ◌, Some, None, Option, sym, refl, ap, ◌∙◌, subst, arith}
use mathlib.Core.Path.{fun_ext}
use Rattle.frames.specs.Samples.{silence}
use Rattle.frames.specs.declared.samples.Frame.{Frame}
use Rattle.racks.specs.Rack.{unit}
use Rattle.reels.specs.Tracks.{Tracks}
use Rattle.session.specs.Plan.{KeepsRules, Plan, line, lines_into, node}
use Rattle.signals.proofs.Inputs.{SilentUntil, common_lead, input_same, input_silent, track_alone}
use Rattle.signals.proofs.Lines.{all_lines}
use Rattle.signals.proofs.Listening.{makes_same, moves_in_time}
use Rattle.signals.proofs.Order.{from_starts}
use Rattle.signals.specs.Patches.{Ordered, lateness, unit_late}
use Rattle.signals.specs.Signals.{Gives, Makes, Runs, Signal, SilentBefore, input}
use Rattle.signals.specs.Theorems.{AlignedIsIdeal}
use Rattle.std.proofs.lemmas.Int.{ints}
use Rattle.voices.specs.Meaning.{Meaning}

-- How far ahead a node's unit looks; 0 without a unit.
abbrev pub ahead_of : List (Meaning Frame) → (Meaning Frame → ℕ) → Option ℕ → ℕ
ahead_of rack ahead None = 0
ahead_of rack ahead (Some s) = ahead (unit rack s)

-- What a node gives of an input that comes `arrival` frames later is `late` frames later.
gives_same : (rack : List (Meaning Frame)) (a b : Meaning Frame → ℕ) (o : Option ℕ) (x y : Signal Frame)
    (arrival late lead : ℕ) (n : ℤ) (f g : Frame)
    → late + ahead_of rack b o ≡ arrival + ahead_of rack a o
    → ((k : ℤ) → y k ≡ x (k -ℤ pos arrival))
    → SilentUntil y lead
    → Gives rack a o x (n -ℤ pos late) f → Gives rack b o y n g → g ≡ f
gives_same rack a b None x y arrival late lead n f g e same s h k = k ∙ same n ∙ ap x (omega (arith, ints)) ∙ sym h
gives_same rack a b (Some u) x y arrival late lead n f g e same s h k =
    makes_same silence (unit rack u) y _ s (n +ℤ pos (b (unit rack u))) g f k
    (subst (λ z. Makes silence (unit rack u) z (n +ℤ pos (b (unit rack u))) f) (sym (fun_ext same))
    (subst (λ z. Makes silence (unit rack u) (λ k. x (k -ℤ pos arrival)) z f) (omega (arith, ints))
    (moves_in_time Frame silence (unit rack u) x (n -ℤ pos late +ℤ pos (a (unit rack u))) (pos arrival) f h)))

-- Let x run under delays d, units ahead by a, and y under delays e, units ahead by b. Where each line's end has its input
-- later by what the line's start is later, and each node gives later by what its input is later and its unit less ahead,
-- y is x, later by each node's number.
pub runs_agree : (p : Plan) (rack : List (Meaning Frame)) (reel : Tracks) (place : ℕ → ℕ) → KeepsRules p → Ordered p place
    → (d e : ℕ → ℕ) (a b : Meaning Frame → ℕ) (arrival late : ℕ → ℕ)
    → ((i : ℕ) → i < length p.lines → late (line p i).start + e i ≡ arrival (line p i).end + d i)
    → ((v : ℕ) → v < length p.nodes → lines_into p v ≡ [] → arrival v ≡ 0)
    → ((v : ℕ) → v < length p.nodes → late v + ahead_of rack b (node p v).unit ≡ arrival v + ahead_of rack a (node p v).unit)
    → (x y : ℕ → Signal Frame) → Runs p rack reel d a x → Runs p rack reel e b y
    → (v : ℕ) → v < length p.nodes → (n : ℤ) → y v n ≡ x v (n -ℤ pos (late v))
runs_agree p rack reel place rules order d e a b arrival late meets alone holds x y runs others =
    from_starts p place rules order (λ v. (n : ℤ) → y v n ≡ x v (n -ℤ pos (late v))) (λ v l before n.
    let lead = common_lead (λ i. y (line p i).start) (lines_into p v)
    (all_lines p v (λ i. (b : ℤ) × SilentBefore silence (y (line p i).start) b) (λ i c _. others.begins (line p i).start (rules.starts i c))) in
    gives_same rack a b (node p v).unit (input p reel d x v (node p v).source) (input p reel e y v (node p v).source)
    (arrival v) (late v) lead.0 n (x v (n -ℤ pos (late v))) (y v n)
    (holds v l)
    (input_same p reel d e x y v (arrival v) (node p v).source (λ track t. alone v l (track_alone p rules v track t))
    (λ i c at k. before i c at (k -ℤ pos (e i)) ∙ ap (x (line p i).start) (omega (arith, ints, meets i c, ap arrival at))))
    (input_silent p reel e y v lead.0 lead.1 (node p v).source)
    (runs.follows v (n -ℤ pos (late v)) l)
    (others.follows v n l))

ahead_late : (rack : List (Meaning Frame)) (o : Option ℕ) (k : ℕ)
    → k + unit_late rack o + ahead_of rack (λ _. 0) o ≡ k + ahead_of rack (λ m. m.late) o
ahead_late rack None k = omega arith
ahead_late rack (Some s) k = omega arith

pub aligned_is_ideal : AlignedIsIdeal
aligned_is_ideal p rack reel place rules laws order delay arrival aligned x y ideal under v n l =
    runs_agree p rack reel place rules order (λ _. 0) delay (λ m. m.late) (λ _. 0) arrival (lateness p rack arrival)
    (λ i b. omega (arith, aligned.meets i b)) aligned.alone (λ v _. ahead_late rack (node p v).unit (arrival v)) x y ideal under v l n

-- Two runs of one kind are the same.
pub runs_same : (p : Plan) (rack : List (Meaning Frame)) (reel : Tracks) (place : ℕ → ℕ) → KeepsRules p → Ordered p place
    → (delay : ℕ → ℕ) (ahead : Meaning Frame → ℕ) (x y : ℕ → Signal Frame) → Runs p rack reel delay ahead x → Runs p rack reel delay ahead y
    → (v : ℕ) (n : ℤ) → v < length p.nodes → y v n ≡ x v n
runs_same p rack reel place rules order delay ahead x y runs others v n l =
    runs_agree p rack reel place rules order delay delay ahead ahead (λ _. 0) (λ _. 0)
    (λ i b. refl) (λ v _ _. refl) (λ v _. refl) x y runs others v l n
    ∙ ap (x v) (omega (arith, ints))
