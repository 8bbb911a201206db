-- What the values of each kind and layer mean: the kind's rule, after what the value has heard since it was at rest.
use Rattle.std.specs.Prelude.{◌≡◌, ℕ, ◌-◌, ◌/◌, cond, List, ◌∷◌}
use Rattle.frames.specs.Samples.{silence}
use Rattle.frames.specs.declared.samples.Frame.{Frame}
use Rattle.units.specs.Heard.{heard}
use Rattle.units.specs.Taps.{taps_of}
use Rattle.units.specs.declared.bypass.Bypass.{Bypass}
use Rattle.units.specs.declared.pan.Pan.{Pan}
use Rattle.units.specs.declared.ruled.Ruled.{Ruled}
use Rattle.units.specs.declared.settings.DelaySettings.{DelaySettings}
use Rattle.units.specs.declared.settings.FirSettings.{FirSettings}
use Rattle.units.specs.declared.settings.LimitSettings.{LimitSettings}
use Rattle.units.specs.declared.trim.Trim.{Trim}
use Rattle.voices.specs.Kinds.{delay_rule, fir_rule, limit_rule, pan_unit, trim_over}
use Rattle.voices.specs.Meaning.{Meaning}
use Rattle.voices.specs.Rules.{by_rule_after}

-- A unit that means `old` hears f, answers r and means `new`.
pub record Steps (old : Meaning Frame) (f r : Frame) (new : Meaning Frame) : Type 0 where
  pub steps : (x : List Frame) → old.present (f ∷ x) ≡ r ∷ new.present x
  pub late : new.late ≡ old.late
  pub voice : new.voice ≡ old.voice

-- A unit that means `old` is put to rest, and means `new` then.
pub record Rests (old new : Meaning Frame) : Type 0 where
  pub present : new.present ≡ old.voice
  pub late : new.late ≡ old.late
  pub voice : new.voice ≡ old.voice

-- A unit by a rule, by how late its settings make it and by the rule that they give.
abbrev pub ruled_meaning : {S : Type 0} → (S → ℕ) → (S → (ℕ → Frame) → Frame) → Ruled S → Meaning Frame
ruled_meaning late rule u = by_rule_after silence (late u.settings) (rule u.settings) (heard u.past)

abbrev pub fir_meaning : Ruled FirSettings → Meaning Frame
fir_meaning u = by_rule_after silence ((u.settings.count - 1) / 2) (fir_rule (taps_of u.settings)) (heard u.past)

abbrev pub delay_meaning : Ruled DelaySettings → Meaning Frame
delay_meaning u = by_rule_after silence 0 (delay_rule u.settings.frames) (heard u.past)

abbrev pub limit_meaning : Ruled LimitSettings → Meaning Frame
limit_meaning u = by_rule_after silence u.settings.lookahead (limit_rule u.settings.lookahead u.settings.ceiling) (heard u.past)

-- A pan hears only the newest frame, so it is at rest at all times.
abbrev pub pan_meaning : Pan → Meaning Frame
pan_meaning u = pan_unit u.settings.position

-- A layer means what it makes of the meaning of the unit below it.
abbrev pub trim_meaning : {U : Type 0} → (U → Meaning Frame) → Trim U → Meaning Frame
trim_meaning below u = trim_over u.settings.gain (below u.unit)

abbrev pub bypass_meaning : {U : Type 0} → (U → Meaning Frame) → Bypass U → Meaning Frame
bypass_meaning below u =
    cond u.settings.on (by_rule_after silence (below u.unit).late (delay_rule (below u.unit).late) (heard u.past)) (below u.unit)
