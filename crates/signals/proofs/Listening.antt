-- What a unit makes of a signal: one answer, which moves in time with the signal.
use Rattle.std.proofs.Common.{◌≡◌, ℕ, zero, suc, ◌+◌, ◌-◌, ◌≤◌, List, [], ◌∷◌, ◌++◌, replicate, ℤ, pos, ◌+ℤ◌, ◌-ℤ◌, ◌<ℤ◌, sym, refl, ap, ◌∙◌, ap₂, inl, inr, arith}
use borrow.Author.Differences.{up}
use Rattle.frames.specs.Samples.{silence}
use Rattle.frames.specs.declared.samples.Frame.{Frame}
use Rattle.signals.specs.Signals.{Makes, Signal, SilentBefore, last_frame, span}
use Rattle.signals.specs.Theorems.{MovesInTime, OneAnswer}
use Rattle.std.proofs.lemmas.List.{nil_from_length}
use Rattle.std.proofs.lemmas.Int.{ints}
use Rattle.std.proofs.lemmas.Bool.{cases_lt}
use Rattle.voices.specs.Meaning.{Lawful, Meaning}

-- Two signals that agree from b and from c on have the same values there.
pub span_same : {X : Type 0} (x y : Signal X) (b c : ℤ) → ((j : ℕ) → x (b +ℤ pos j) ≡ y (c +ℤ pos j)) → (k : ℕ) → span x b k ≡ span y c k
span_same x y b c h zero = refl
span_same x y b c h (suc k) =
    ap₂ ◌∷◌ (ap x (omega (arith, ints)) ∙ h 0 ∙ ap y (omega (arith, ints)))
    (span_same x y (b +ℤ pos 1) (c +ℤ pos 1) (λ j. ap x (omega (arith, ints)) ∙ h (suc j) ∙ ap y (omega (arith, ints))) k)

-- A signal that is silent before some number is silent before each smaller one.
pub silent_sooner : {X : Type 0} (quiet : X) (x : Signal X) (b c : ℤ) (d : ℕ) → b ≡ c +ℤ pos d → SilentBefore quiet x b → SilentBefore quiet x c
silent_sooner quiet x b c d e s n h = s n (omega (arith, ints))

span_waits : {X : Type 0} (quiet : X) (x : Signal X) (k : ℕ) (b : ℤ) (d : ℕ) → SilentBefore quiet x (b +ℤ pos d)
    → span x b (d + k) ≡ replicate d quiet ++ span x (b +ℤ pos d) k
span_waits quiet x k b zero s = ap₂ (span x) (omega (arith, ints)) (omega arith)
span_waits quiet x k b (suc d) s =
    let more : suc d + k ≡ suc (d + k) = omega arith in
    ap (span x b) more
    ∙ ap₂ ◌∷◌ (s b (omega (arith, ints)))
    (span_waits quiet x k (b +ℤ pos 1) d (silent_sooner quiet x (b +ℤ pos (suc d)) (b +ℤ pos 1 +ℤ pos d) 0 (omega (arith, ints)) s)
    ∙ ap (λ c. replicate d quiet ++ span x c k) (omega (arith, ints)))

last_more : (l : List Frame) → last_frame (silence ∷ l) ≡ last_frame l
last_more [] = refl
last_more (f ∷ l) = refl

last_waits : (d : ℕ) (l : List Frame) → last_frame (replicate d silence ++ l) ≡ last_frame l
last_waits zero l = refl
last_waits (suc d) l = last_more (replicate d silence ++ l) ∙ last_waits d l

-- The last frame of a unit's voice over a signal's values from b to b + k.
abbrev pub heard : {X : Type 0} → Meaning X → Signal X → ℤ → ℕ → Frame
heard m x b k = last_frame (m.voice (span x b (suc k)))

heard_sooner : {X : Type 0} (quiet : X) (m : Meaning X) → Lawful quiet m → (x : Signal X) (b c : ℤ) (j k : ℕ) → b +ℤ pos j ≡ c +ℤ pos k → k ≤ j
    → SilentBefore quiet x c → heard m x b j ≡ heard m x c k
heard_sooner quiet m law x b c j k e h s =
    let at : c ≡ b +ℤ pos (j - k) = omega (arith, ints) in
    let more : suc j ≡ j - k + suc k = omega arith in
    ap (λ l. last_frame (m.voice (span x b l))) more
    ∙ ap (λ l. last_frame (m.voice l)) (span_waits quiet x (suc k) b (j - k) (silent_sooner quiet x c (b +ℤ pos (j - k)) 0 (omega (arith, ints)) s))
    ∙ ap last_frame (law.voice_waits (j - k) (span x (b +ℤ pos (j - k)) (suc k)))
    ∙ last_waits (j - k) (m.voice (span x (b +ℤ pos (j - k)) (suc k)))
    ∙ ap (λ z. heard m x z k) (sym at)

-- Where one begins to listen makes no difference.
heard_same : {X : Type 0} (quiet : X) (m : Meaning X) → Lawful quiet m → (x : Signal X) (b c : ℤ) (j k : ℕ) → b +ℤ pos j ≡ c +ℤ pos k
    → SilentBefore quiet x b → SilentBefore quiet x c → heard m x b j ≡ heard m x c k
heard_same quiet m law x b c j k e s t =
    elim (cases_lt j k) [
      | inl h ↦ sym (heard_sooner quiet m law x c b k j (sym e) (omega arith) s)
      | inr h ↦ heard_sooner quiet m law x b c j k e h t
    ]

-- What a unit makes of a signal that is silent before c, as a function: it listens from c on, or at n alone.
abbrev pub made : {X : Type 0} → Meaning X → Signal X → ℤ → ℤ → Frame
made m x c n = heard m x (n -ℤ pos (up (n -ℤ c))) (up (n -ℤ c))

begins_silent : {X : Type 0} (quiet : X) (x : Signal X) (c n : ℤ) → SilentBefore quiet x c → SilentBefore quiet x (n -ℤ pos (up (n -ℤ c)))
begins_silent quiet x c n s k h = s k (omega (arith, ints))

pub made_makes : {X : Type 0} (quiet : X) (m : Meaning X) → Lawful quiet m → (x : Signal X) (c : ℤ) → SilentBefore quiet x c
    → (n : ℤ) → Makes quiet m x n (made m x c n)
made_makes quiet m law x c s n b k e t =
    heard_same quiet m law x (n -ℤ pos (up (n -ℤ c))) b (up (n -ℤ c)) k (omega (arith, ints)) (begins_silent quiet x c n s) t

-- Before its signal begins, a unit is silent.
pub made_silent : {X : Type 0} (quiet : X) (m : Meaning X) → Lawful quiet m → (x : Signal X) (c : ℤ) → SilentBefore quiet x c
    → (n : ℤ) → n <ℤ c → made m x c n ≡ silence
made_silent quiet m law x c s n h =
    made_makes quiet m law x c s n n 0 (omega (arith, ints)) (λ k l. s k (omega (arith, ints)))
    ∙ ap (λ v. last_frame (m.voice (v ∷ []))) (s n h)
    ∙ ap last_frame (law.voice_waits 1 [])
    ∙ last_more (m.voice [])
    ∙ ap last_frame (nil_from_length (m.voice []) (law.voice_length []))

-- What a unit makes of a signal is one frame: here no law of units is used.
pub makes_same : {X : Type 0} (quiet : X) (m : Meaning X) (x : Signal X) (c : ℤ) → SilentBefore quiet x c → (n : ℤ) (f g : Frame)
    → Makes quiet m x n f → Makes quiet m x n g → f ≡ g
makes_same quiet m x c s n f g h k =
    let b : ℤ = n -ℤ pos (up (n -ℤ c)) in
    let e : n ≡ b +ℤ pos (up (n -ℤ c)) = omega (arith, ints) in
    h b (up (n -ℤ c)) e (begins_silent quiet x c n s) ∙ sym (k b (up (n -ℤ c)) e (begins_silent quiet x c n s))

pub one_answer : (X : Type 0) → OneAnswer X
one_answer X quiet m law x b s n =
    (made m x b n, made_makes quiet m law x b s n, λ g h. makes_same quiet m x b s n g (made m x b n) h (made_makes quiet m law x b s n))

pub moves_in_time : (X : Type 0) → MovesInTime X
moves_in_time X quiet m x n d f h b k e s =
    h (b -ℤ d) k (omega (arith, ints)) (λ z l. ap x (omega (arith, ints)) ∙ s (z +ℤ d) (omega (arith, ints)))
    ∙ ap (λ l. last_frame (m.voice l)) (span_same x (λ z. x (z -ℤ d)) (b -ℤ d) b (λ j. ap x (omega (arith, ints))) (suc k))
