-- What a rack of the session's shape means: the meanings of its eight units, in order.
use Rattle.std.specs.Prelude.{List, [], ◌∷◌}
use Rattle.frames.specs.declared.samples.Frame.{Frame}
use Rattle.racks.specs.Sides.{paired}
use Rattle.racks.specs.declared.pair.Pair.{Pair}
use Rattle.racks.specs.declared.single.Single.{Single}
use Rattle.units.specs.Meanings.{bypass_meaning, delay_meaning, fir_meaning, limit_meaning, pan_meaning, trim_meaning}
use Rattle.units.specs.declared.bypass.Bypass.{Bypass}
use Rattle.units.specs.declared.pan.Pan.{Pan}
use Rattle.units.specs.declared.ruled.Ruled.{Ruled}
use Rattle.units.specs.declared.settings.DelaySettings.{DelaySettings}
use Rattle.units.specs.declared.settings.FirSettings.{FirSettings}
use Rattle.units.specs.declared.settings.LimitSettings.{LimitSettings}
use Rattle.units.specs.declared.trim.Trim.{Trim}
use Rattle.voices.specs.Meaning.{Meaning}

-- One unit under its layers.
abbrev pub strip_units : {U : Type 0} → (U → Meaning Frame) → Single (Trim (Bypass U)) → List (Meaning Frame)
strip_units meaning r = trim_meaning (bypass_meaning meaning) r.unit ∷ []

-- Two racks as one.
abbrev pub pair_units : {P Q : Type 0} → (P → List (Meaning Frame)) → (Q → List (Meaning Frame)) → Pair P Q → List (Meaning Frame)
pair_units first second r = paired (first r.first) (second r.second)

-- Two units of one kind, as racks.
abbrev pub Two : Type 0 → Type 0
Two U = Pair (Single (Trim (Bypass U))) (Single (Trim (Bypass U)))

-- Two units of one kind.
abbrev pub two_units : {U : Type 0} → (U → Meaning Frame) → Two U → List (Meaning Frame)
two_units meaning = pair_units (strip_units meaning) (strip_units meaning)

abbrev pub session_units : Pair (Pair (Two (Ruled FirSettings)) (Two (Ruled LimitSettings))) (Pair (Two Pan) (Two (Ruled DelaySettings))) → List (Meaning Frame)
session_units = pair_units (pair_units (two_units fir_meaning) (two_units limit_meaning)) (pair_units (two_units pan_meaning) (two_units delay_meaning))
