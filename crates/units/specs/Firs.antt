-- That a fir keeps what its rule has to: proofs, which no reader of the definitions needs.
use Rattle.std.proofs.Common.{◌≡◌, ◌-◌, ◌/◌, length, ap, arith}
use Rattle.frames.specs.Samples.{silence}
use Rattle.std.proofs.lemmas.List.{length-take-le}
use Rattle.units.specs.Taps.{taps_of}
use Rattle.units.specs.declared.settings.FirSettings.{FirSettings}
use Rattle.voices.proofs.Looks.{fir_looks, Looks}
use Rattle.voices.specs.Kinds.{fir_rule, fir_unit}
use Rattle.voices.specs.Rules.{by_rule}

pub taps_length : (s : FirSettings) → length (taps_of s) ≡ s.count
unfolding taps_of
taps_length s = length-take-le s.count s.taps (omega (arith, s.full, s.range.1))

pub fir_is : (s : FirSettings) → fir_unit (taps_of s) ≡ by_rule silence ((s.count - 1) / 2) (fir_rule (taps_of s))
fir_is s = ap (λ n. by_rule silence ((n - 1) / 2) (fir_rule (taps_of s))) (taps_length s)

pub fir_seen : (s : FirSettings) → Looks 63 (fir_rule (taps_of s))
fir_seen s = let n = taps_length s in fir_looks (taps_of s) (omega (arith, s.range.1))
