-- What each refusal is told as: number, layer and place.
use Rattle.console.specs.Faults.{console_refusal}
use Rattle.faults.specs.declared.MixFault.{MixFault}
use Rattle.faults.specs.declared.MixFault.TheVariants.{Console, Text, Wave, Write}
use Rattle.frames.specs.declared.refusals.Refusal.{Refusal}
use Rattle.wave.specs.Faults.{wave_refusal, write_refusal}
use Rattle.words.specs.Faults.{refusal}

abbrev pub mix_refusal : MixFault → Refusal
mix_refusal (Text fault) = refusal fault
mix_refusal (Wave fault) = wave_refusal fault
mix_refusal (Console fault) = console_refusal fault
mix_refusal (Write fault) = write_refusal fault
