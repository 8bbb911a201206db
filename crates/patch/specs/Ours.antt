-- Our patch of a session and a rack.
use Rattle.std.specs.Prelude.{◌≡◌, ℕ, ◌<◌, ◌≤◌, List, length, ℤ, pos, ◌-ℤ◌, None, Decides}
use Rattle.frames.specs.declared.samples.Frame.{Frame}
use Rattle.patch.specs.Chains.{Chain}
use Rattle.patch.specs.Due.{due}
use Rattle.patch.specs.Flows.{in_set}
use Rattle.patch.specs.Inputs.{Arranges}
use Rattle.patch.specs.Patches.{delay_of, delays, feeder_sets, feeders_of, late_of, latenesses, ordered_nodes}
use Rattle.patch.specs.Placing.{order_of, place_in}
use Rattle.patch.specs.declared.patches.Patch.{Patch}
use Rattle.reels.specs.Tracks.{Tracks}
use Rattle.session.specs.Plan.{Plan}
use Rattle.signals.specs.Patches.{Aligned, lateness, latest_start, Ordered, our_delay, OurLatenesses}
use Rattle.signals.specs.Signals.{Ideal, Signal, Under}
use Rattle.voices.specs.Meaning.{Meaning}

-- What a patch tells is our patch of a plan and a rack, and this is what that comes to.
pub record OurPatch (p : Plan) (rack : List (Meaning Frame)) (r : Patch) : Type 0 where
  -- no refusal is due
  pub clear : due p rack ≡ None
  -- the nodes stand in the order of their placing, and every line's start comes before its end
  pub in_order : ordered_nodes r ≡ order_of p
  pub ordered : Ordered p (place_in (ordered_nodes r))
  -- a lateness and feeders for each node, and a delay for each line
  pub each_late : length (latenesses r) ≡ length p.nodes
  pub each_fed : length (feeder_sets r) ≡ length p.nodes
  pub each_held : length (delays r) ≡ length p.lines
  -- the lines by their ends
  pub arranged : Arranges p.lines r.inputs
  -- the latenesses and delays are ours
  pub late : OurLatenesses p rack (late_of r)
  pub held : (i : ℕ) → i < length p.lines → delay_of r i ≡ our_delay p (late_of r) i
  -- no line is held more than 945 frames
  pub short : (i : ℕ) → i < length p.lines → delay_of r i ≤ 945
  -- the patch is aligned, and these are the latenesses under it
  pub aligned : Aligned p rack (delay_of r) (latest_start p (late_of r))
  pub under : (v : ℕ) → v < length p.nodes → lateness p rack (latest_start p (late_of r)) v ≡ late_of r v
  -- under every aligned patch every node is at least as late
  pub least : (delay arrival : ℕ → ℕ) → Aligned p rack delay arrival
      → (v : ℕ) → v < length p.nodes → late_of r v ≤ lateness p rack arrival v
  -- under every aligned patch the output is the mix, later by its lateness there
  pub mix : (reel : Tracks) (x y : ℕ → Signal Frame) (delay arrival : ℕ → ℕ) → Aligned p rack delay arrival
      → Ideal p rack reel x → Under p rack reel delay y → (n : ℤ) → y 0 n ≡ x 0 (n -ℤ pos (lateness p rack arrival 0))
  -- a node's feeders are the nodes from which a chain of lines leads to it
  pub fed : (v w : ℕ) → v < length p.nodes → Decides (in_set (feeders_of r v) w) (Chain p w v)
