-- The rack that a session's settings make.
use Rattle.std.specs.Prelude.{ℕ, List, [], ◌∷◌, ℤ, pos, Some, None, Option}
use Rattle.frames.specs.declared.samples.Frame.{Frame}
use Rattle.session.specs.Held.{setting}
use Rattle.session.specs.declared.settings.Kind.{Kind}
use Rattle.session.specs.declared.settings.Kind.TheVariants.{Fir, Limit, Pan, Delay}
use Rattle.session.specs.declared.settings.Setting.{Setting}
use Rattle.units.specs.Taps.{taps_of}
use Rattle.voices.specs.Kinds.{bypass_over, delay_unit, fir_unit, limit_unit, pan_unit, trim_over}
use Rattle.voices.specs.Meaning.{Meaning}

-- The taps of a fir as it is set; one that is not set has the one tap 0.
abbrev pub taps_by : Option Kind → List ℤ
taps_by (Some (Fir k)) = taps_of k
taps_by (Some (Limit k)) = pos 0 ∷ []
taps_by (Some (Pan k)) = pos 0 ∷ []
taps_by (Some (Delay k)) = pos 0 ∷ []
taps_by None = pos 0 ∷ []

-- The lookahead and the ceiling of a limit as it is set; one that is not set has 0 and 1.
abbrev pub lookahead_by : Option Kind → ℕ
lookahead_by (Some (Fir k)) = 0
lookahead_by (Some (Limit k)) = k.lookahead
lookahead_by (Some (Pan k)) = 0
lookahead_by (Some (Delay k)) = 0
lookahead_by None = 0

abbrev pub ceiling_by : Option Kind → ℕ
ceiling_by (Some (Fir k)) = 1
ceiling_by (Some (Limit k)) = k.ceiling
ceiling_by (Some (Pan k)) = 1
ceiling_by (Some (Delay k)) = 1
ceiling_by None = 1

-- The position of a pan as it is set; one that is not set is at 0.
abbrev pub position_by : Option Kind → ℕ
position_by (Some (Fir k)) = 0
position_by (Some (Limit k)) = 0
position_by (Some (Pan k)) = k.position
position_by (Some (Delay k)) = 0
position_by None = 0

-- The frames of a delay as it is set; one that is not set has 0.
abbrev pub frames_by : Option Kind → ℕ
frames_by (Some (Fir k)) = 0
frames_by (Some (Limit k)) = 0
frames_by (Some (Pan k)) = 0
frames_by (Some (Delay k)) = k.frames
frames_by None = 0

-- The gain of a trim; unity where none is given.
abbrev pub gain_of : Option ℤ → ℤ
gain_of None = pos 16384
gain_of (Some gain) = gain

-- The layers over a unit: trim over bypass, as the unit's entry gives them.
abbrev pub layered : Setting → Meaning Frame → Meaning Frame
layered entry m = trim_over (gain_of entry.trim) (bypass_over entry.bypass m)

-- A unit of each kind under its layers, as its entry sets it.
abbrev pub fir_strip : Setting → Meaning Frame
fir_strip entry = layered entry (fir_unit (taps_by entry.kind))

abbrev pub limit_strip : Setting → Meaning Frame
limit_strip entry = layered entry (limit_unit (lookahead_by entry.kind) (ceiling_by entry.kind))

abbrev pub pan_strip : Setting → Meaning Frame
pan_strip entry = layered entry (pan_unit (position_by entry.kind))

abbrev pub delay_strip : Setting → Meaning Frame
delay_strip entry = layered entry (delay_unit (frames_by entry.kind))

-- Units 0 and 1 are firs, 2 and 3 limits, 4 and 5 pans, 6 and 7 delays.
abbrev pub rack_of : List Setting → List (Meaning Frame)
rack_of settings =
    fir_strip (setting settings 0) ∷ fir_strip (setting settings 1) ∷ limit_strip (setting settings 2) ∷ limit_strip (setting settings 3)
    ∷ pan_strip (setting settings 4) ∷ pan_strip (setting settings 5) ∷ delay_strip (setting settings 6) ∷ delay_strip (setting settings 7) ∷ []
