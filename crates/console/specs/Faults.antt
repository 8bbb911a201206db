-- What each refusal of the console is told as.
use Rattle.console.specs.declared.faults.ConsoleFault.{ConsoleFault}
use Rattle.console.specs.declared.faults.ConsoleFault.TheVariants as console
use Rattle.console.specs.declared.faults.PlayFault.{PlayFault}
use Rattle.console.specs.declared.faults.PlayFault.TheVariants.{TapeLength, TooManyFrames, PastTheEnd}
use Rattle.frames.specs.declared.refusals.Layer.TheVariants.{Play}
use Rattle.frames.specs.declared.refusals.Refusal.{Refusal}
use Rattle.patch.specs.Faults.{patch_refusal}

-- At playing: 22, 23 and 24, without a place.
abbrev pub play_refusal : PlayFault → Refusal
play_refusal TapeLength = record { number = 22; layer = Play; first = 0; second = 0 }
play_refusal TooManyFrames = record { number = 23; layer = Play; first = 0; second = 0 }
play_refusal PastTheEnd = record { number = 24; layer = Play; first = 0; second = 0 }

abbrev pub console_refusal : ConsoleFault → Refusal
console_refusal (console.Patch fault) = patch_refusal fault
console_refusal (console.Play fault) = play_refusal fault
