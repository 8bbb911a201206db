-- A ring of 64 frames, after one more is written.
use Rattle.std.proofs.Common.{◌≡◌, ℕ, zero, suc, ◌+◌, ◌%◌, ◌<◌, ltb, length, get_or, set, replicate, sym, refl, ap, ◌∙◌, arith}
use mathlib.Core.Path.{fun_ext}
use Rattle.frames.specs.Samples.{silence}
use Rattle.frames.specs.declared.samples.Frame.{Frame}
use Rattle.std.proofs.lemmas.List.{get_or-set_other, get_or-set_same}
use Rattle.std.proofs.lemmas.Bool.{cond_both, cond-true, lt-ltb}
use Rattle.units.specs.Heard.{heard}
use Rattle.units.specs.declared.past.Past.{Past}
use Rattle.voices.specs.Rules.{then_heard}

getD_silent : (n i : ℕ) → get_or (replicate n silence) i silence ≡ silence
getD_silent zero i = refl
getD_silent (suc n) zero = refl
getD_silent (suc n) (suc i) = getD_silent n i

pub heard_nothing : (at : ℕ) → heard (record { frames = replicate 64 silence; at = at }) ≡ (λ _. silence)
unfolding heard
heard_nothing at = fun_ext (λ k. cond_both (ltb k 64) _ silence (λ f. f ≡ silence) (λ _. getD_silent 64 ((at + k) % 64)) (λ _. refl))

pub heard_within : (past : Past) (k : ℕ) → k < 64 → heard past k ≡ get_or past.frames ((past.at + k) % 64) silence
unfolding heard
heard_within past k h = cond-true (ltb k 64) _ _ (lt-ltb k 64 h)

-- the place of `new` is any that comes just before that of `old`
pub heard_more : (old new : Past) (f : Frame) → length old.frames ≡ 64 → new.at < 64 → (new.at + 1) % 64 ≡ old.at % 64 → new.frames ≡ set old.frames new.at f
    → (k : ℕ) → k < 64 → heard new k ≡ then_heard (heard old) f k
heard_more old new f full inside next e zero h =
    let i : (new.at + 0) % 64 ≡ new.at = omega arith in
    heard_within new 0 h ∙ ap (λ j. get_or new.frames j silence) i ∙ ap (λ l. get_or l new.at silence) e ∙ get_or-set_same old.frames new.at f silence (omega arith)
heard_more old new f full inside next e (suc k) h =
    let i : (new.at + suc k) % 64 ≡ (old.at + k) % 64 = omega arith in
    heard_within new (suc k) h ∙ ap (λ j. get_or new.frames j silence) i ∙ ap (λ l. get_or l ((old.at + k) % 64) silence) e
    ∙ get_or-set_other old.frames new.at ((old.at + k) % 64) f silence (λ g. omega arith) ∙ sym (heard_within old k (omega arith))
