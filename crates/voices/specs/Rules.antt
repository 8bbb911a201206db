-- Units that answer by a rule on the past: what was heard k frames ago, for each k from 0, the newest.
use Rattle.std.specs.Prelude.{ℕ, zero, suc, ◌-◌, cond, List, [], ◌∷◌, map, length, nat_le, slice_index_or}
use Rattle.frames.specs.declared.samples.Frame.{Frame}
use Rattle.std.specs.List.{range_with_len}
use Rattle.voices.specs.Meaning.{Meaning}

-- What is heard k frames before the n-th of a list: what comes before the first is silent.
abbrev pub back : {X : Type 0} → X → List X → ℕ → ℕ → X
back quiet x n k = cond (nat_le k n) (slice_index_or x (n - k) quiet) quiet

-- The voice of a rule: at each n its answer to the past as it is at n.
abbrev pub voice_by : {X : Type 0} → X → ((ℕ → X) → Frame) → List X → List Frame
voice_by quiet rule x = map (λ n. rule (back quiet x n)) (range_with_len 0 (length x))

-- The past when one more is heard.
abbrev pub then_heard : {X : Type 0} → (ℕ → X) → X → ℕ → X
then_heard past f zero = f
then_heard past f (suc k) = past k

-- What a rule answers to a list that is heard after a past.
abbrev pub voice_after : {X : Type 0} → ((ℕ → X) → Frame) → (ℕ → X) → List X → List Frame
voice_after rule past [] = []
voice_after rule past (f ∷ x) = rule (then_heard past f) ∷ voice_after rule (then_heard past f) x

-- A unit that answers by a rule, when it has heard a past since it was at rest.
abbrev pub by_rule_after : {X : Type 0} → X → ℕ → ((ℕ → X) → Frame) → (ℕ → X) → Meaning X
by_rule_after quiet late rule past = record { late = late; voice = voice_by quiet rule; present = voice_after rule past }

-- A unit that answers by a rule, at rest.
abbrev pub by_rule : {X : Type 0} → X → ℕ → ((ℕ → X) → Frame) → Meaning X
by_rule quiet late rule = record { late = late; voice = voice_by quiet rule; present = voice_by quiet rule }
