-- What making a reel answers.
use Rattle.std.specs.Prelude.{◌≡◌, ℕ, List, Some, None, Option, Result, MatchResult}
use Rattle.wave.specs.declared.parts.TrackPart.{TrackPart}
use Rattle.wave.specs.declared.reader.WaveFault.{WaveFault}
use Rattle.wave.specs.declared.reel.WaveReel.{WaveReel}

-- The fault that is due, or where none is, the reel of exactly these bytes and parts.
abbrev pub Opened : Option WaveFault → List ℕ → List TrackPart → Result WaveReel WaveFault → Type 0
Opened due bytes parts r = MatchResult r (λ reel. (due ≡ None) × (reel.bytes.now ≡ bytes) × (reel.parts ≡ parts)) (λ fault. due ≡ Some fault)
