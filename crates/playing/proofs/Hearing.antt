-- A unit that has heard a list since it was at rest, one frame further.
use Rattle.std.proofs.Common.{◌≡◌, ℕ, suc, ◌+◌, ◌<◌, ◌≤◌, ◌≢◌, List, [], ◌∷◌, ◌++◌, length, take, drop, sym, refl, ap, ◌∙◌, subst, inl, inr, ⊎_elim, append_assoc, arith, length-append}
use Rattle.frames.specs.Samples.{silence}
use Rattle.frames.specs.declared.samples.Frame.{Frame}
use Rattle.racks.specs.Rack.{answer, first_frame, heard_by, no_unit, RackLaws, rest_of, stepped, unit}
use Rattle.signals.specs.Signals.{last_frame}
use Rattle.std.proofs.lemmas.List.{append_cancel_left, get_or_past, get_or-set_other, get_or-set_same, length-set, nil_from_length, set_past, take-append-drop}
use Rattle.std.proofs.lemmas.Bool.{cases_eq, cases_lt}
use Rattle.voices.specs.Meaning.{Lawful, Meaning}

-- it has heard fs since it was at rest
abbrev pub HasHeard : Meaning Frame → List Frame → Type 0
HasHeard m fs = (z : List Frame) → m.voice (fs ++ z) ≡ m.voice fs ++ m.present z

pub heard_nothing : (m : Meaning Frame) → Lawful silence m → m.present ≡ m.voice → HasHeard m []
heard_nothing m law rest z =
    ap (λ v. v z) (sym rest) ∙ ap (λ l. l ++ m.present z) (sym (nil_from_length (m.voice []) (law.voice_length [])))

last_push : (xs : List Frame) (f : Frame) → last_frame (xs ++ f ∷ []) ≡ f
last_push [] f = refl
last_push (x ∷ []) f = refl
last_push (x ∷ (y ∷ xs)) f = last_push (y ∷ xs) f

one_frame : (xs : List Frame) → length xs ≡ 1 → xs ≡ first_frame xs ∷ []
one_frame [] h = absurd (omega arith)
one_frame (x ∷ []) h = refl
one_frame (x ∷ (y ∷ xs)) h = absurd (omega arith)

rest_is_drop : (xs : List Frame) → rest_of xs ≡ drop 1 xs
rest_is_drop [] = refl
rest_is_drop (x ∷ xs) = refl

take_over : (xs ys : List Frame) (k : ℕ) → take (length xs + k) (xs ++ ys) ≡ xs ++ take k ys
take_over [] ys k = ap (λ n. take n ys) (omega arith)
take_over (x ∷ xs) ys k =
    let e : length (x ∷ xs) + k ≡ suc (length xs + k) = omega arith in
    ap (λ n. take n (x ∷ (xs ++ ys))) e ∙ ap (λ l. x ∷ l) (take_over xs ys k)

module _ (m : Meaning Frame) (law : Lawful silence m) (fs : List Frame) (heard : HasHeard m fs) (f : Frame) where
  -- its answer is the last frame of its voice over what it has heard then
  pub answers_last : answer m f ≡ last_frame (m.voice (fs ++ f ∷ []))
  answers_last =
      sym (ap last_frame (heard (f ∷ []) ∙ ap (λ l. m.voice fs ++ l) (one_frame (m.present (f ∷ [])) (law.present_length (f ∷ [])))) ∙ last_push (m.voice fs) (answer m f))

  first_alike : (z : List Frame) → take 1 (m.present (f ∷ z)) ≡ m.present (f ∷ [])
  first_alike z =
      let whole : m.voice ((fs ++ f ∷ []) ++ z) ≡ m.voice fs ++ m.present (f ∷ z) = ap m.voice (append_assoc fs (f ∷ []) z) ∙ heard (f ∷ z) in
      let long : length (fs ++ f ∷ []) ≡ length (m.voice fs) + 1 = length-append fs (f ∷ []) ∙ ap (λ n. n + 1) (sym (law.voice_length fs)) in
      append_cancel_left (m.voice fs) (take 1 (m.present (f ∷ z))) (m.present (f ∷ []))
      (sym (take_over (m.voice fs) (m.present (f ∷ z)) 1) ∙ ap (λ n. take n (m.voice fs ++ m.present (f ∷ z))) (sym long)
      ∙ ap (take (length (fs ++ f ∷ []))) (sym whole) ∙ law.voice_begins (fs ++ f ∷ []) z ∙ heard (f ∷ []))

  pub heard_more : HasHeard (heard_by m f) (fs ++ f ∷ [])
  heard_more z =
      ap m.voice (append_assoc fs (f ∷ []) z) ∙ heard (f ∷ z)
      ∙ ap (λ l. m.voice fs ++ l) (sym (take-append-drop 1 (m.present (f ∷ z))))
      ∙ ap (λ l. m.voice fs ++ (l ++ drop 1 (m.present (f ∷ z)))) (first_alike z)
      ∙ sym (append_assoc (m.voice fs) (m.present (f ∷ [])) (drop 1 (m.present (f ∷ z))))
      ∙ ap (λ l. l ++ drop 1 (m.present (f ∷ z))) (sym (heard (f ∷ [])))
      ∙ ap (λ l. m.voice (fs ++ f ∷ []) ++ l) (sym (rest_is_drop (m.present (f ∷ z))))

-- a unit that has heard one frame more keeps the laws
pub heard_lawful : (m : Meaning Frame) (f : Frame) → Lawful silence m → Lawful silence (heard_by m f)
heard_lawful m f law = record {
  late_bound = law.late_bound;
  voice_length = law.voice_length;
  present_length = λ x. shorter (m.present (f ∷ x)) (length x) (law.present_length (f ∷ x));
  voice_begins = law.voice_begins;
  voice_waits = law.voice_waits;
}
  where
    shorter : (ys : List Frame) (k : ℕ) → length ys ≡ suc k → length (rest_of ys) ≡ k
    shorter [] k h = absurd (omega arith)
    shorter (y ∷ ys) k h = omega arith

-- the units of a rack of which one has stepped
pub unit_moved : (units : List (Meaning Frame)) (s : ℕ) (f : Frame) → unit (stepped units s f) s ≡ heard_by (unit units s) f
unit_moved units s f = ⊎_elim here past (cases_lt s (length units))
  where
    here : s < length units → unit (stepped units s f) s ≡ heard_by (unit units s) f
    here h = get_or-set_same units s (heard_by (unit units s) f) no_unit h

    past : length units ≤ s → unit (stepped units s f) s ≡ heard_by (unit units s) f
    past h =
        let none : unit units s ≡ no_unit = get_or_past units s no_unit h in
        ap (λ us. unit us s) (set_past units s (heard_by (unit units s) f) h) ∙ none ∙ ap (λ m. heard_by m f) (sym none)

pub unit_unmoved : (units : List (Meaning Frame)) (s t : ℕ) (f : Frame) → t ≢ s → unit (stepped units s f) t ≡ unit units t
unit_unmoved units s t f h = get_or-set_other units s t (heard_by (unit units s) f) no_unit h

pub stepped_lawful : (units : List (Meaning Frame)) (s : ℕ) (f : Frame) → RackLaws units → RackLaws (stepped units s f)
stepped_lawful units s f laws = record { few = rw (length-set units s (heard_by (unit units s) f)) laws.few; each = each }
  where
    each : (t : ℕ) → t < length (stepped units s f) → Lawful silence (unit (stepped units s f) t)
    each t h =
        let l : t < length units = rw (length-set units s (heard_by (unit units s) f)) at h in
        elim (cases_eq t s) [
          | inl e ↦ subst (λ k. Lawful silence (unit (stepped units s f) k)) (sym e) (subst (Lawful silence) (sym (unit_moved units s f)) (heard_lawful (unit units s) f (laws.each s (rw e at l))))
          | inr ne ↦ subst (Lawful silence) (sym (unit_unmoved units s t f ne)) (laws.each t l)
        ]
