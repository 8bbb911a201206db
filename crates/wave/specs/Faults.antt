-- What each refusal is told as.
use Rattle.frames.specs.declared.refusals.Layer.TheVariants.{Patch, Play, Wave}
use Rattle.frames.specs.declared.refusals.Refusal.{Refusal}
use Rattle.wave.specs.declared.reader.WaveFault as reader
use Rattle.wave.specs.declared.reader.WaveFault.TheVariants as fault
use Rattle.wave.specs.declared.writer.WriteFault.{WriteFault}
use Rattle.wave.specs.declared.writer.WriteFault.TheVariants.{NoNode, TooLong, BufferLength}

-- The writer's: 19 is the patch layer's, 27 and 26 are the play layer's, all without a place.
abbrev pub write_refusal : WriteFault → Refusal
write_refusal NoNode = record { number = 19; layer = Patch; first = 0; second = 0 }
write_refusal TooLong = record { number = 27; layer = Play; first = 0; second = 0 }
write_refusal BufferLength = record { number = 26; layer = Play; first = 0; second = 0 }

-- The reader's: 19 as above; else the wave layer, with the track and the byte in its part.
abbrev pub wave_refusal : reader.WaveFault → Refusal
wave_refusal fault.NoNode = record { number = 19; layer = Patch; first = 0; second = 0 }
wave_refusal (fault.Outside track) = record { number = 18; layer = Wave; first = track; second = 0 }
wave_refusal (fault.Length track) = record { number = 10; layer = Wave; first = track; second = 0 }
wave_refusal (fault.Head track byte) = record { number = 11; layer = Wave; first = track; second = byte }
