-- What a unit's own calls do to a rack that it stands in.
use Rattle.std.proofs.Common.{◌≡◌, ℕ, zero, suc, ◌-◌, ◌<◌, ◌≤◌, List, [], ◌∷◌, ◌++◌, map, length, take, set, sym, refl, ap, ◌∙◌, arith}
use Rattle.frames.specs.declared.samples.Frame.{Frame}
use Rattle.racks.specs.Rack.{heard_by, no_unit, rested, stepped, unit}
use Rattle.std.proofs.lemmas.List.{get_or_append_left, get_or-append_right, get_or-take, map-append, set-append_left, set-append_right, take-map}
use Rattle.voices.specs.Meaning.{Meaning}

-- a unit at rest, by what its `rest` promises
pub unit_rested : (m n : Meaning Frame) → n.present ≡ m.voice → n.late ≡ m.late → n.voice ≡ m.voice → n ≡ rested m
unit_rested m n present late voice = λ i. record { late = late i; voice = voice i; present = present i }

set_take : {X : Type 0} (n s : ℕ) (xs : List X) (y : X) → s < n → set (take n xs) s y ≡ take n (set xs s y)
set_take zero s xs y h = absurd (omega arith)
set_take (suc n) s [] y h = refl
set_take (suc n) zero (x ∷ xs) y h = refl
set_take (suc n) (suc s) (x ∷ xs) y h = ap (λ l. x ∷ l) (set_take n s xs y (omega arith))

module _ (us vs : List (Meaning Frame)) (s : ℕ) (few : length us ≤ 16) where
  pub pair_first : s < length us → unit (take 16 (us ++ vs)) s ≡ unit us s
  pair_first h = get_or-take 16 (us ++ vs) s no_unit (omega arith) ∙ get_or_append_left us vs no_unit s h

  pub pair_second : length us ≤ s → s < 16 → unit (take 16 (us ++ vs)) s ≡ unit vs (s - length us)
  pair_second h g = get_or-take 16 (us ++ vs) s no_unit g ∙ get_or-append_right us vs (length us) s no_unit refl h

  pub pair_steps_first : (f : Frame) → s < length us → stepped (take 16 (us ++ vs)) s f ≡ take 16 (stepped us s f ++ vs)
  pair_steps_first f h =
      ap (λ m. set (take 16 (us ++ vs)) s (heard_by m f)) (pair_first h)
      ∙ set_take 16 s (us ++ vs) (heard_by (unit us s) f) (omega arith)
      ∙ ap (take 16) (set-append_left us vs s (heard_by (unit us s) f) h)

  pub pair_steps_second : (f : Frame) → length us ≤ s → s < 16 → stepped (take 16 (us ++ vs)) s f ≡ take 16 (us ++ stepped vs (s - length us) f)
  pair_steps_second f h g =
      ap (λ m. set (take 16 (us ++ vs)) s (heard_by m f)) (pair_second h g)
      ∙ set_take 16 s (us ++ vs) (heard_by (unit vs (s - length us)) f) g
      ∙ ap (take 16) (set-append_right us vs (length us) s (heard_by (unit vs (s - length us)) f) refl h)

pub pair_rests : (us vs : List (Meaning Frame)) → map rested (take 16 (us ++ vs)) ≡ take 16 (map rested us ++ map rested vs)
pair_rests us vs = sym (take-map rested 16 (us ++ vs)) ∙ ap (take 16) (map-append rested us vs)
