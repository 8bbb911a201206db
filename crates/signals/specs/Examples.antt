-- Two sessions that show what the theorems say. In both, two nodes are brought to the output by a line each, at unity.
use Rattle.std.specs.Prelude.{◌≡◌, ℕ, zero, suc, ◌+◌, ◌<◌, List, [], ◌∷◌, length, ℤ, pos, negsuc, ◌-ℤ◌, Some, None}
use Rattle.frames.specs.declared.samples.Frame.{Frame}
use Rattle.racks.specs.Rack.{unit}
use Rattle.reels.specs.Clicks.{click, clicks}
use Rattle.session.specs.Plan.{KeepsRules, Plan}
use Rattle.session.specs.declared.nodes.Node.{Node}
use Rattle.session.specs.declared.nodes.Source.TheVariants.{Track, Bus}
use Rattle.signals.specs.Patches.{Aligned, lateness, Ordered, our_delay, OurLatenesses}
use Rattle.signals.specs.Signals.{Ideal, Signal, Under}
use Rattle.voices.specs.Meaning.{Meaning}

-- Node 0 is the output; line 0 comes from node 1, and line 1 from node 2.
abbrev pub two_into_one : Node → Node → Plan
two_into_one a b = record {
  nodes = record { source = Bus; unit = None } ∷ a ∷ b ∷ [];
  lines = record { start = 1; end = 0; gain = pos 16384 } ∷ record { start = 2; end = 0; gain = pos 16384 } ∷ [];
}

-- The output comes last.
abbrev pub output_last : ℕ → ℕ
output_last zero = 2
output_last (suc v) = v

-- One number at 0, and another from 1 on.
abbrev pub one_and_other : ℕ → ℕ → ℕ → ℕ
one_and_other a b zero = a
one_and_other a b (suc i) = b

-- Nodes 1 and 2 are both track 0 of the click reel, one click at frame 0.
abbrev pub twins : Plan
twins = two_into_one (record { source = Track 0; unit = None }) (record { source = Track 0; unit = None })

-- Line 1 is held three frames, and line 0 is not.
abbrev pub three_late : ℕ → ℕ
three_late = one_and_other 0 3

-- A three-frame comb: in the mix the click stands once, at twice its height, and under this patch twice. That is not the
-- mix at any lateness, and the patch is not aligned.
pub record Comb : Type 0 where
  pub keeps : KeepsRules twins
  pub placed : Ordered twins output_last
  pub unaligned : (arrival : ℕ → ℕ) → Aligned twins [] three_late arrival → ⊥
  pub mix : (x : ℕ → Signal Frame) → Ideal twins [] clicks x → x 0 (pos 0) ≡ record { left = pos 32000; right = negsuc 31999 }
  pub twice : (y : ℕ → Signal Frame) → Under twins [] clicks three_late y → (y 0 (pos 0) ≡ click) × (y 0 (pos 3) ≡ click)
  pub not_the_mix : (x y : ℕ → Signal Frame) → Ideal twins [] clicks x → Under twins [] clicks three_late y
      → (m : ℤ) → ((n : ℤ) → y 0 n ≡ x 0 (n -ℤ m)) → ⊥

-- Node 1 is track 0 with unit 0, and node 2 is track 1 without a unit.
abbrev pub late_and_plain : Plan
late_and_plain = two_into_one (record { source = Track 0; unit = Some 0 }) (record { source = Track 1; unit = None })

-- Both lines are held a frame longer than ours.
abbrev pub a_frame_longer : ℕ → ℕ
a_frame_longer = one_and_other 1 41

-- With a unit that is 40 late, our delays are 0 and 40, and the output is 40 late. The rival that holds both lines a frame
-- longer is aligned too, and its output is a frame later.
pub record HeldLonger : Type 0 where
  pub keeps : KeepsRules late_and_plain
  pub placed : Ordered late_and_plain output_last
  pub ours : (rack : List (Meaning Frame)) → (unit rack 0).late ≡ 40 → (late : ℕ → ℕ) → OurLatenesses late_and_plain rack late
      → (our_delay late_and_plain late 0 ≡ 0) × (our_delay late_and_plain late 1 ≡ 40) × (late 0 ≡ 40)
  pub longer : (rack : List (Meaning Frame)) → (unit rack 0).late ≡ 40 → (late : ℕ → ℕ) → OurLatenesses late_and_plain rack late
      → (i : ℕ) → i < length late_and_plain.lines → a_frame_longer i ≡ our_delay late_and_plain late i + 1
  pub rival : (rack : List (Meaning Frame)) → (unit rack 0).late ≡ 40
      → Aligned late_and_plain rack a_frame_longer (one_and_other 41 0) × (lateness late_and_plain rack (one_and_other 41 0) 0 ≡ 41)
