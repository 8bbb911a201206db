-- Ten worked examples. A mono signal stands on both sides alike.
use Rattle.std.specs.Prelude.{◌≡◌, ℕ, List, [], ◌∷◌, ℤ, pos, negsuc, Some, None}
use Rattle.frames.specs.Buses.{bus}
use Rattle.frames.specs.Samples.{scaled}
use Rattle.frames.specs.declared.refusals.Layer.TheVariants.{Patch}
use Rattle.frames.specs.declared.samples.Frame.{Frame}
use Rattle.frames.specs.declared.samples.Part.{Part}
use Rattle.patch.specs.Due.{due}
use Rattle.patch.specs.Examples.{bus as bus_node, ring, two_ways}
use Rattle.patch.specs.Faults.{patch_refusal}
use Rattle.patch.specs.Flows.{feeders_kind}
use Rattle.patch.specs.Sweeps.{Swept}
use Rattle.patch.specs.declared.faults.PatchFault.TheVariants.{Unplaced}
use Rattle.racks.specs.Rack.{unit}
use Rattle.session.specs.Plan.{Plan}
use Rattle.signals.specs.Patches.{our_delay, OurLatenesses}
use Rattle.voices.specs.Examples.{mono}
use Rattle.voices.specs.Kinds.{delay_unit, fir_unit, limit_unit, weight}
use Rattle.voices.specs.Meaning.{Meaning}

-- What a line of unity gain brings: the same sample on both sides.
abbrev pub at_unity : ℤ → Part
at_unity z = record { frame = record { left = z; right = z }; gain = pos 16384 }

-- The output alone: a bus without a unit, and no line.
abbrev pub alone : Plan
alone = record { nodes = bus_node None ∷ []; lines = [] }

pub record TenExamples : Type 0 where
  -- Half of 1 is 0 and half of −1 is −1, since scaling rounds down.
  pub halved : (scaled (pos 1) (pos 8192) ≡ pos 0) × (scaled (negsuc 0) (pos 8192) ≡ negsuc 0)
  -- A delay of 3 gives the 7 three frames later.
  pub delayed : (delay_unit 3).voice (mono (pos 7 ∷ pos 0 ∷ pos 0 ∷ pos 0 ∷ [])) ≡ mono (pos 0 ∷ pos 0 ∷ pos 0 ∷ pos 7 ∷ [])
  -- A bus clamps only the whole sum, so that 30,000 twice and −30,000 give 30,000.
  pub summed : bus (at_unity (pos 30000) ∷ at_unity (pos 30000) ∷ at_unity (negsuc 29999) ∷ []) ≡ record { left = pos 30000; right = pos 30000 }
  -- A fir answers to a single 16,000 with its taps, a quarter, a half and a quarter of it.
  pub filtered : (fir_unit (pos 4096 ∷ pos 8192 ∷ pos 4096 ∷ [])).voice (mono (pos 16000 ∷ pos 0 ∷ pos 0 ∷ [])) ≡ mono (pos 4000 ∷ pos 8000 ∷ pos 4000 ∷ [])
  -- A limit that looks one frame ahead turns the 5,000 down too, since the 20,000 after it is twice the ceiling.
  pub limited : (limit_unit 1 10000).voice (mono (pos 5000 ∷ pos 20000 ∷ pos 0 ∷ pos 0 ∷ [])) ≡ mono (pos 0 ∷ pos 2500 ∷ pos 10000 ∷ pos 0 ∷ [])
  -- A ceiling of 1 takes the lowest sample to −1.
  pub limited_to_one : (limit_unit 0 1).voice (mono (negsuc 32767 ∷ [])) ≡ mono (negsuc 0 ∷ [])
  -- The pan weights on the far left, in the middle and on the far right.
  pub weights : (weight 0 ≡ 16384) × (weight 128 ≡ 11585) × (weight 256 ≡ 0)
  -- With every rack the output alone is not refused, not late, and fed by itself only.
  pub by_itself : (rack : List (Meaning Frame)) → (due alone rack ≡ None)
      × ((late : ℕ → ℕ) → OurLatenesses alone rack late → late 0 ≡ 0)
      × ((sets : ℕ → ℕ) → Swept feeders_kind alone sets → sets 0 ≡ 1)
  -- Where the units of two ways to the output are 40 and 10 late, the last line of the quicker way is held 30 frames.
  pub held : (rack : List (Meaning Frame)) (late : ℕ → ℕ) → (unit rack 0).late ≡ 40 → (unit rack 1).late ≡ 10 → OurLatenesses two_ways rack late
      → (late 0 ≡ 40) × (late 1 ≡ 40) × (late 2 ≡ 0) × (late 3 ≡ 10)
      × (our_delay two_ways late 0 ≡ 0) × (our_delay two_ways late 1 ≡ 0) × (our_delay two_ways late 2 ≡ 30)
  -- With every rack a ring is refused under number 21 at node 0, the lowest that stays unplaced, since it hears the ring.
  pub refused : (rack : List (Meaning Frame)) → (due ring rack ≡ Some (Unplaced 0))
      × (patch_refusal (Unplaced 0) ≡ record { number = 21; layer = Patch; first = 0; second = 0 })
