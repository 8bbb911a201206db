-- What holds of every session whose nodes can be placed, every lawful rack and every reel.
use Rattle.std.specs.Prelude.{◌≡◌, ℕ, ◌<◌, ◌≤◌, List, length, ℤ, pos, ◌+ℤ◌, ◌-ℤ◌}
use Rattle.frames.specs.declared.samples.Frame.{Frame}
use Rattle.racks.specs.Rack.{RackLaws}
use Rattle.reels.specs.Tracks.{Tracks}
use Rattle.session.specs.Plan.{KeepsRules, Plan}
use Rattle.signals.specs.Patches.{Aligned, lateness, latest_start, Ordered, our_delay, OurLatenesses}
use Rattle.signals.specs.Signals.{Ideal, Makes, Signal, SilentBefore, Under}
use Rattle.voices.specs.Meaning.{Lawful, Meaning}

-- What a unit makes of a signal does not depend on b: there is one answer, and one only, that every b gives.
abbrev pub OneAnswer : Type 0 → Type 0
OneAnswer X = (quiet : X) (m : Meaning X) → Lawful quiet m → (x : Signal X) (b : ℤ) → SilentBefore quiet x b → (n : ℤ)
    → (f : Frame) × Makes quiet m x n f × ((g : Frame) → Makes quiet m x n g → g ≡ f)

-- What a unit makes of a signal moves in time with the signal.
abbrev pub MovesInTime : Type 0 → Type 0
MovesInTime X = (quiet : X) (m : Meaning X) (x : Signal X) (n d : ℤ) (f : Frame)
    → Makes quiet m x n f → Makes quiet m (λ k. x (k -ℤ d)) (n +ℤ d) f

-- Two families are the same at every declared node.
abbrev pub SameSignals : Plan → (ℕ → Signal Frame) → (ℕ → Signal Frame) → Type 0
SameSignals p x y = (v : ℕ) (n : ℤ) → v < length p.nodes → x v n ≡ y v n

-- A session whose nodes can all be placed has exactly one family of ideal signals.
abbrev pub OneIdeal : Type 0
OneIdeal = (p : Plan) (rack : List (Meaning Frame)) (reel : Tracks) (place : ℕ → ℕ) → KeepsRules p → RackLaws rack → Ordered p place
    → (x : ℕ → Signal Frame) × Ideal p rack reel x × ((y : ℕ → Signal Frame) → Ideal p rack reel y → SameSignals p y x)

-- And exactly one under each patch.
abbrev pub OneUnder : Type 0
OneUnder = (p : Plan) (rack : List (Meaning Frame)) (reel : Tracks) (place : ℕ → ℕ) → KeepsRules p → RackLaws rack → Ordered p place
    → (delay : ℕ → ℕ) → (x : ℕ → Signal Frame) × Under p rack reel delay x × ((y : ℕ → Signal Frame) → Under p rack reel delay y → SameSignals p y x)

-- Under every aligned patch, at every node and every n, the frame is the ideal frame n less the node's lateness there.
abbrev pub AlignedIsIdeal : Type 0
AlignedIsIdeal = (p : Plan) (rack : List (Meaning Frame)) (reel : Tracks) (place : ℕ → ℕ) → KeepsRules p → RackLaws rack → Ordered p place
    → (delay arrival : ℕ → ℕ) → Aligned p rack delay arrival
    → (x y : ℕ → Signal Frame) → Ideal p rack reel x → Under p rack reel delay y
    → (v : ℕ) (n : ℤ) → v < length p.nodes → y v n ≡ x v (n -ℤ pos (lateness p rack arrival v))

-- A session whose nodes can all be placed has our latenesses, and one such family only.
abbrev pub OneLateness : Type 0
OneLateness = (p : Plan) (rack : List (Meaning Frame)) (place : ℕ → ℕ) → KeepsRules p → Ordered p place
    → (late : ℕ → ℕ) × OurLatenesses p rack late × ((other : ℕ → ℕ) → OurLatenesses p rack other → (v : ℕ) → v < length p.nodes → other v ≡ late v)

-- Our patch is aligned, and a node's lateness under it is ours.
abbrev pub OursIsAligned : Type 0
OursIsAligned = (p : Plan) (rack : List (Meaning Frame)) (late : ℕ → ℕ) → KeepsRules p → OurLatenesses p rack late
    → Aligned p rack (our_delay p late) (latest_start p late) × ((v : ℕ) → v < length p.nodes → lateness p rack (latest_start p late) v ≡ late v)

-- Where a patch is aligned, its arrivals are determined.
abbrev pub OneArrival : Type 0
OneArrival = (p : Plan) (rack : List (Meaning Frame)) (place : ℕ → ℕ) → KeepsRules p → Ordered p place
    → (delay a b : ℕ → ℕ) → Aligned p rack delay a → Aligned p rack delay b → (v : ℕ) → v < length p.nodes → a v ≡ b v

-- No aligned patch has any node less late than ours.
abbrev pub OursIsLeast : Type 0
OursIsLeast = (p : Plan) (rack : List (Meaning Frame)) (place late : ℕ → ℕ) → KeepsRules p → Ordered p place → OurLatenesses p rack late
    → (delay arrival : ℕ → ℕ) → Aligned p rack delay arrival → (v : ℕ) → v < length p.nodes → late v ≤ lateness p rack arrival v

-- No delay of ours passes 945.
abbrev pub DelaysStayShort : Type 0
DelaysStayShort = (p : Plan) (rack : List (Meaning Frame)) (place late : ℕ → ℕ) → KeepsRules p → RackLaws rack → Ordered p place → OurLatenesses p rack late
    → (i : ℕ) → i < length p.lines → our_delay p late i ≤ 945
