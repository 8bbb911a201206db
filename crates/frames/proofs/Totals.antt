-- Sums, one element further, and a bus's sum on its way.
use Rattle.std.proofs.Common.{◌≡◌, ◌+◌, ◌<◌, Bool, true, cond, ltb, List, [], ◌∷◌, ◌++◌, length, ℤ, ◌+ℤ◌, sym, ap, ◌∙◌, ap₂, arith}
use Rattle.frames.specs.Buses.{bus, left_of, right_of}
use Rattle.frames.specs.Samples.{clamped, total}
use Rattle.frames.specs.declared.samples.Frame.{Frame}
use Rattle.frames.specs.declared.samples.Part.{Part}
use Rattle.frames.specs.declared.sums.Sum.{Sum}
use Rattle.std.proofs.lemmas.List.{length_push}
use Rattle.std.proofs.lemmas.Int.{ints}
use Rattle.std.proofs.lemmas.Bool.{cond-true, lt-ltb}

pub total_push : {X : Type 0} (f : X → ℤ) (xs : List X) (y : X) → total f (xs ++ y ∷ []) ≡ total f xs +ℤ f y
total_push f [] y = omega (arith, ints)
total_push f (x ∷ xs) y = let h = total_push f xs y in omega (arith, ints)

-- a sum holds what these parts bring
abbrev pub AddsUp : Sum → List Part → Type 0
AddsUp s parts = (s.left ≡ total left_of parts) × (s.right ≡ total right_of parts) × (s.lines ≡ length parts)

-- one part more, by what `add` promises
pub adds_one : (s t : Sum) (parts : List Part) (part : Part) (room : Bool) → AddsUp s parts → length parts < 48
    → room ≡ ltb s.lines 48
    → t.left ≡ cond room (s.left +ℤ left_of part) s.left
    → t.right ≡ cond room (s.right +ℤ right_of part) s.right
    → t.lines ≡ cond room (s.lines + 1) s.lines
    → AddsUp t (parts ++ part ∷ [])
adds_one s t parts part room a few r l q n =
    let yes : room ≡ true = r ∙ ap (λ k. ltb k 48) a.2 ∙ lt-ltb (length parts) 48 few in (
      l ∙ cond-true room _ _ yes ∙ ap (λ z. z +ℤ left_of part) a.0 ∙ sym (total_push left_of parts part),
      q ∙ cond-true room _ _ yes ∙ ap (λ z. z +ℤ right_of part) a.1 ∙ sym (total_push right_of parts part),
      n ∙ cond-true room _ _ yes ∙ ap (λ k. k + 1) a.2 ∙ sym (length_push parts part),
    )

-- the bus's frame, by what `frame` promises
pub adds_up_to : (s : Sum) (parts : List Part) (f : Frame) → AddsUp s parts → f.left ≡ clamped s.left → f.right ≡ clamped s.right → f ≡ bus parts
adds_up_to s parts f a l r = ap₂ (λ x y. record { left = x; right = y }) (l ∙ ap clamped a.0) (r ∙ ap clamped a.1)
