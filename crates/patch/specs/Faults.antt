-- What each fault is told as.
use Rattle.frames.specs.declared.refusals.Layer.TheVariants.{Patch}
use Rattle.frames.specs.declared.refusals.Refusal.{Refusal}
use Rattle.patch.specs.declared.faults.PatchFault.{PatchFault}
use Rattle.patch.specs.declared.faults.PatchFault.TheVariants.{NoNode, NoUnit, Unplaced, NotDeclared}

abbrev pub patch_refusal : PatchFault → Refusal
patch_refusal NoNode = record { number = 19; layer = Patch; first = 0; second = 0 }
patch_refusal (NoUnit v) = record { number = 20; layer = Patch; first = v; second = 0 }
patch_refusal (Unplaced v) = record { number = 21; layer = Patch; first = v; second = 0 }
patch_refusal (NotDeclared v) = record { number = 25; layer = Patch; first = v; second = 0 }
