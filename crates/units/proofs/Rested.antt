-- Units that were put to rest.
use Rattle.std.proofs.Common.{◌≡◌, ℕ, Bool, true, false, cond, refl, ap, ◌∙◌}
use Rattle.frames.specs.Samples.{silence}
use Rattle.frames.specs.declared.samples.Frame.{Frame}
use Rattle.units.specs.Meanings.{Rests}
use Rattle.voices.proofs.Looks.{fresh, rests}
use Rattle.voices.specs.Kinds.{bypass_over, delay_rule}
use Rattle.voices.specs.Meaning.{Meaning}
use Rattle.voices.specs.Rules.{by_rule_after, voice_by}

pub bypass_fresh : (on : Bool) (past : ℕ → Frame) (m : Meaning Frame) → past ≡ (λ _. silence) → cond on (by_rule_after silence m.late (delay_rule m.late) past) m ≡ bypass_over on m
bypass_fresh true past m e = fresh m.late (delay_rule m.late) past e
bypass_fresh false past m e = refl

pub bypass_rests : (on : Bool) (old-past past : ℕ → Frame) (old new : Meaning Frame) → past ≡ (λ _. silence) → new.present ≡ old.voice → new.late ≡ old.late → new.voice ≡ old.voice
    → Rests (cond on (by_rule_after silence old.late (delay_rule old.late) old-past) old) (cond on (by_rule_after silence new.late (delay_rule new.late) past) new)
bypass_rests true old-past past old new e present late voice = record {
  present = rests (delay_rule new.late) past e ∙ ap (λ k. voice_by silence (delay_rule k)) late;
  late = late;
  voice = ap (λ k. voice_by silence (delay_rule k)) late;
}
bypass_rests false old-past past old new e present late voice = record { present = present; late = late; voice = voice }
