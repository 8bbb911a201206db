-- The latest of a rack's units, found by number.
use Rattle.std.proofs.Common.{◌≡◌, ℕ, max, List, [], ◌∷◌, map, length, sym, refl, ap, ◌∙◌}
use Rattle.frames.specs.declared.samples.Frame.{Frame}
use Rattle.racks.specs.Rack.{no_unit, unit}
use Rattle.std.proofs.lemmas.List.FromFn.{fill_by_all}
use Rattle.std.specs.List.{range_with_len}
use Rattle.voices.specs.Kinds.{greatest}
use Rattle.voices.specs.Meaning.{Meaning}

greatest_map : {X Y : Type 0} (f : Y → ℕ) (h : X → Y) (xs : List X) → greatest (λ x. f (h x)) xs ≡ greatest f (map h xs)
greatest_map f h [] = refl
greatest_map f h (x ∷ xs) = ap (max (f (h x))) (greatest_map f h xs)

pub greatest_numbered : (units : List (Meaning Frame)) (n : ℕ) → n ≡ length units → greatest (λ s. (unit units s).late) (range_with_len 0 n) ≡ greatest (λ m. m.late) units
greatest_numbered units n e =
    greatest_map (λ m. m.late) (unit units) (range_with_len 0 n)
    ∙ ap (greatest (λ m. m.late)) (sym (fill_by_all (unit units) units n no_unit (sym e) (λ k h. refl)))
