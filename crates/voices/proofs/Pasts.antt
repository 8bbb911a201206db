-- Voices by a rule on the past: what they answer, step by step, and the laws that they keep.
use Rattle.std.proofs.Common.{◌≡◌, ℕ, zero, suc, ◌+◌, ◌-◌, ◌<◌, ◌≤◌, cond, leb, ◌⊎◌, List, [], ◌∷◌, ◌++◌, map, length, get_or, take, replicate, sym, refl, ap, ◌∙◌, ap₂, inl, inr, ⊎_elim, add-one, arith}
use mathlib.Core.Path.{fun_ext}
use Rattle.frames.specs.Samples.{silence}
use Rattle.frames.specs.declared.samples.Frame.{Frame}
use Rattle.std.proofs.lemmas.Bool.{cases_lt, cases_order, cond-false, cond-true, le-leb, lt-leb}
use Rattle.std.specs.List.{range_with_len}
use Rattle.voices.specs.Meaning.{Lawful}
use Rattle.voices.specs.Rules.{then_heard, voice_after, voice_by}

map_counting_shift : {Y : Type 0} (g : ℕ → Y) (a n : ℕ) → map g (range_with_len (a + 1) n) ≡ map (λ i. g (suc i)) (range_with_len a n)
map_counting_shift g a zero = refl
map_counting_shift g a (suc n) = ap₂ ◌∷◌ (ap g (add-one a)) (map_counting_shift g (a + 1) n)

map_same : {X Y : Type 0} (f g : X → Y) → ((x : X) → f x ≡ g x) → (xs : List X) → map f xs ≡ map g xs
map_same f g h xs = ap (λ k. map k xs) (fun_ext h)

-- what is heard k frames before the n-th of a list that comes after a past
back_after : {X : Type 0} → X → (ℕ → X) → List X → ℕ → ℕ → X
back_after quiet past x n k = cond (leb k n) (get_or x (n - k) quiet) (past (k - n - 1))

module _ {X : Type 0} (quiet : X) where
  back_inside : (past : ℕ → X) (x : List X) (n k : ℕ) → k ≤ n → back_after quiet past x n k ≡ get_or x (n - k) quiet
  unfolding back_after
  back_inside past x n k h = cond-true (leb k n) _ _ (le-leb k n h)

  back_before : (past : ℕ → X) (x : List X) (n k : ℕ) → n < k → back_after quiet past x n k ≡ past (k - n - 1)
  unfolding back_after
  back_before past x n k h = cond-false (leb k n) _ _ (lt-leb k n h)

  first_back : (past : ℕ → X) (f : X) (x : List X) (k : ℕ) → then_heard past f k ≡ back_after quiet past (f ∷ x) 0 k
  first_back past f x zero = sym (back_inside past (f ∷ x) 0 0 (omega arith))
  first_back past f x (suc k) = ap past (omega arith) ∙ sym (back_before past (f ∷ x) 0 (suc k) (omega arith))

  next_back : (past : ℕ → X) (f : X) (x : List X) (n k : ℕ) → back_after quiet (then_heard past f) x n k ≡ back_after quiet past (f ∷ x) (suc n) k
  next_back past f x n k = ⊎_elim inside (⊎_elim at before) (cases k n)
    where
      cases : (k n : ℕ) → (k ≤ n) ⊎ ((k ≡ suc n) ⊎ (suc n < k))
      cases k n = ⊎_elim (λ h. inr (⊎_elim inl (⊎_elim (λ l. absurd (omega arith)) inr) (cases_order k (suc n)))) inl (cases_lt n k)

      inside : k ≤ n → back_after quiet (then_heard past f) x n k ≡ back_after quiet past (f ∷ x) (suc n) k
      inside h =
          let e : suc (n - k) ≡ suc n - k = omega arith in
          back_inside (then_heard past f) x n k h ∙ ap (λ i. get_or (f ∷ x) i quiet) e ∙ sym (back_inside past (f ∷ x) (suc n) k (omega arith))

      at : k ≡ suc n → back_after quiet (then_heard past f) x n k ≡ back_after quiet past (f ∷ x) (suc n) k
      at h =
          let p : k - n - 1 ≡ 0 = omega arith in
          let q : suc n - k ≡ 0 = omega arith in
          back_before (then_heard past f) x n k (omega arith) ∙ ap (then_heard past f) p ∙ sym (ap (λ i. get_or (f ∷ x) i quiet) q) ∙ sym (back_inside past (f ∷ x) (suc n) k (omega arith))

      before : suc n < k → back_after quiet (then_heard past f) x n k ≡ back_after quiet past (f ∷ x) (suc n) k
      before h =
          let p : k - n - 1 ≡ suc (k - suc n - 1) = omega arith in
          back_before (then_heard past f) x n k (omega arith) ∙ ap (then_heard past f) p ∙ sym (back_before past (f ∷ x) (suc n) k (omega arith))

module _ {X : Type 0} (quiet : X) (rule : (ℕ → X) → Frame) where
  after_by_places : (past : ℕ → X) (x : List X) → voice_after rule past x ≡ map (λ n. rule (back_after quiet past x n)) (range_with_len 0 (length x))
  after_by_places past [] = refl
  after_by_places past (f ∷ x) =
      ap₂ ◌∷◌ (ap rule (fun_ext (first_back quiet past f x)))
      (after_by_places (then_heard past f) x
      ∙ map_same _ _ (λ n. ap rule (fun_ext (next_back quiet past f x n))) (range_with_len 0 (length x))
      ∙ sym (map_counting_shift (λ n. rule (back_after quiet past (f ∷ x) n)) 0 (length x)))

  -- the voice of a rule, heard frame by frame
  pub voice_is_after : (x : List X) → voice_by quiet rule x ≡ voice_after rule (λ _. quiet) x
  unfolding back_after
  voice_is_after x = sym (after_by_places (λ _. quiet) x)

  pub after_length : (past : ℕ → X) (x : List X) → length (voice_after rule past x) ≡ length x
  after_length past [] = refl
  after_length past (f ∷ x) = ap suc (after_length (then_heard past f) x)

  after_begins : (past : ℕ → X) (x y : List X) → take (length x) (voice_after rule past (x ++ y)) ≡ voice_after rule past x
  after_begins past [] y = refl
  after_begins past (f ∷ x) y = ap (λ l. rule (then_heard past f) ∷ l) (after_begins (then_heard past f) x y)

  still_quiet : (k : ℕ) → then_heard (λ _. quiet) quiet k ≡ quiet
  still_quiet zero = refl
  still_quiet (suc k) = refl

  after_waits : rule (λ _. quiet) ≡ silence → (k : ℕ) (x : List X) → voice_after rule (λ _. quiet) (replicate k quiet ++ x) ≡ replicate k silence ++ voice_after rule (λ _. quiet) x
  after_waits e zero x = refl
  after_waits e (suc k) x =
      let q : then_heard (λ _. quiet) quiet ≡ (λ (_ : ℕ). quiet) = fun_ext still_quiet in
      ap₂ ◌∷◌ (ap rule q ∙ e) (ap (λ p. voice_after rule p (replicate k quiet ++ x)) q ∙ after_waits e k x)

  -- a rule that answers silence to silence keeps the laws, whatever was heard before
  pub rule_lawful : (late : ℕ) (past : ℕ → X) → late ≤ 63 → rule (λ _. quiet) ≡ silence → Lawful quiet (record { late = late; voice = voice_by quiet rule; present = voice_after rule past })
  rule_lawful late past h e = record {
    late_bound = h;
    voice_length = λ x. ap length (voice_is_after x) ∙ after_length (λ _. quiet) x;
    present_length = after_length past;
    voice_begins = λ x y. ap (take (length x)) (voice_is_after (x ++ y)) ∙ after_begins (λ _. quiet) x y ∙ sym (voice_is_after x);
    voice_waits = λ k x. voice_is_after (replicate k quiet ++ x) ∙ after_waits e k x ∙ ap (λ l. replicate k silence ++ l) (sym (voice_is_after x));
  }

  -- a rule that looks back at most m frames answers alike after pasts that agree on the newest m
  pub after_agree : (m : ℕ) → ((p q : ℕ → X) → ((k : ℕ) → k ≤ m → p k ≡ q k) → rule p ≡ rule q)
      → (p q : ℕ → X) → ((k : ℕ) → k < m → p k ≡ q k) → (x : List X) → voice_after rule p x ≡ voice_after rule q x
  after_agree m looks p q agree [] = refl
  after_agree m looks p q agree (f ∷ x) =
      ap₂ ◌∷◌ (looks (then_heard p f) (then_heard q f) now_agree) (after_agree m looks (then_heard p f) (then_heard q f) (λ k h. now_agree k (omega arith)) x)
    where
      now_agree : (k : ℕ) → k ≤ m → then_heard p f k ≡ then_heard q f k
      now_agree zero h = refl
      now_agree (suc k) h = agree k (omega arith)
