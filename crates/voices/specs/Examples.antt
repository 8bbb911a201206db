-- Worked examples of the kinds. A mono signal stands on both sides alike.
use Rattle.std.specs.Prelude.{◌≡◌, true, List, [], ◌∷◌, map, ℤ, pos, negsuc}
use Rattle.frames.specs.declared.samples.Frame.{Frame}
use Rattle.voices.specs.Kinds.{bypass_over, delay_unit, fir_unit, limit_unit, trim_over, weight}

-- A list of frames with the same sample on both sides.
abbrev pub mono : List ℤ → List Frame
mono = map (λ z. record { left = z; right = z })

pub record Examples : Type 0 where
  pub delayed : (delay_unit 3).voice (mono (pos 7 ∷ pos 0 ∷ pos 0 ∷ pos 0 ∷ [])) ≡ mono (pos 0 ∷ pos 0 ∷ pos 0 ∷ pos 7 ∷ [])
  pub filtered : (fir_unit (pos 4096 ∷ pos 8192 ∷ pos 4096 ∷ [])).voice (mono (pos 16000 ∷ pos 0 ∷ pos 0 ∷ [])) ≡ mono (pos 4000 ∷ pos 8000 ∷ pos 4000 ∷ [])
  pub limited : (limit_unit 1 10000).voice (mono (pos 5000 ∷ pos 20000 ∷ pos 0 ∷ pos 0 ∷ [])) ≡ mono (pos 0 ∷ pos 2500 ∷ pos 10000 ∷ pos 0 ∷ [])
  pub limited_to_one : (limit_unit 0 1).voice (mono (negsuc 32767 ∷ [])) ≡ mono (negsuc 0 ∷ [])
  pub hard_left : weight 0 ≡ 16384
  pub middle : weight 128 ≡ 11585
  pub hard_right : weight 256 ≡ 0
  pub bypassed : (bypass_over true (limit_unit 2 1)).voice (mono (pos 9 ∷ pos 8 ∷ pos 7 ∷ pos 6 ∷ [])) ≡ mono (pos 0 ∷ pos 0 ∷ pos 9 ∷ pos 8 ∷ [])
  pub bypassed_late : (bypass_over true (limit_unit 2 1)).late ≡ 2
  pub trimmed_up : (trim_over (pos 32767) (delay_unit 0)).voice (mono (pos 30000 ∷ negsuc 29999 ∷ [])) ≡ mono (pos 32767 ∷ negsuc 32767 ∷ [])
