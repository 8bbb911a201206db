-- The promise: what is heard is the mix, later by what `lateness` answers, and no aligned patch is less late.
use Rattle.std.specs.Prelude.{◌≡◌, ℕ, ◌<◌, ◌≤◌, cond, List, length, ℤ, pos, ◌-ℤ◌, Ok, Err, Result, nat_lt}
use Rattle.frames.specs.declared.samples.Frame.{Frame}
use Rattle.patch.specs.Patches.{delay_of, late_of, latenesses}
use Rattle.patch.specs.declared.faults.PatchFault.{PatchFault}
use Rattle.patch.specs.declared.faults.PatchFault.TheVariants.{NotDeclared}
use Rattle.patch.specs.declared.patches.Patch.{Patch}
use Rattle.reels.specs.Tracks.{Tracks}
use Rattle.session.specs.Plan.{Plan}
use Rattle.signals.specs.Patches.{Aligned, lateness}
use Rattle.signals.specs.Signals.{Ideal, Signal, span, Under}
use Rattle.signals.specs.Theorems.{SameSignals}
use Rattle.voices.specs.Meaning.{Meaning}

-- What `lateness` answers about node v.
abbrev pub lateness_answer : Patch → ℕ → Result ℕ PatchFault
lateness_answer r v = cond (nat_lt v (length (latenesses r))) (Ok (late_of r v)) (Err (NotDeclared v))

-- A rival with these delays and arrivals, beside ours with arrivals `ours`, where x are the ideal signals: it gives one
-- family of signals; its output is the mix, later by the output's lateness there; and no node is less late than under ours.
pub record Rival (p : Plan) (rack : List (Meaning Frame)) (reel : Tracks) (x : ℕ → Signal Frame) (ours : ℕ → ℕ) (delay arrival : ℕ → ℕ) : Type 0 where
  pub one : (y : ℕ → Signal Frame) × Under p rack reel delay y × ((z : ℕ → Signal Frame) → Under p rack reel delay z → SameSignals p z y)
  pub same_mix : (y : ℕ → Signal Frame) → Under p rack reel delay y → (n : ℤ) → y 0 n ≡ x 0 (n -ℤ pos (lateness p rack arrival 0))
  pub no_less_late : (v : ℕ) → v < length p.nodes → lateness p rack ours v ≤ lateness p rack arrival v

-- Of a session's plan, our patch, the rack, the reel and what was heard: x are the ideal signals, x 0 is the mix, and
-- `arrival` are our patch's arrivals.
pub record Kept (p : Plan) (r : Patch) (rack : List (Meaning Frame)) (reel : Tracks) (heard : List Frame) (x : ℕ → Signal Frame) (arrival : ℕ → ℕ) : Type 0 where
  pub ideal : Ideal p rack reel x
  pub only : (y : ℕ → Signal Frame) → Ideal p rack reel y → SameSignals p y x
  pub aligned : Aligned p rack (delay_of r) arrival
  pub answers : (v : ℕ) → v < length p.nodes → lateness_answer r v ≡ Ok (lateness p rack arrival v)
  pub mix : heard ≡ span (x 0) (pos 0 -ℤ pos (lateness p rack arrival 0)) (length heard)
  pub rivals : (delay other : ℕ → ℕ) → Aligned p rack delay other → Rival p rack reel x arrival delay other

abbrev pub Promise : Plan → Patch → List (Meaning Frame) → Tracks → List Frame → Type 0
Promise p r rack reel heard = (x : ℕ → Signal Frame) × (arrival : ℕ → ℕ) × Kept p r rack reel heard x arrival
