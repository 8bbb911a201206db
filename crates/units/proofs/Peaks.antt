-- The greatest of some numbers, as a fold finds it.
use Rattle.std.proofs.Common.{◌≡◌, ℕ, max, List, [], ◌∷◌, arith}
use Rattle.std.specs.List.{fold}
use Rattle.voices.specs.Kinds.{greatest}

greatest_from : {X : Type 0} (f : X → ℕ) (a : ℕ) (xs : List X) → fold (λ a x. max (f x) a) a xs ≡ max (greatest f xs) a
greatest_from f a [] = omega arith
greatest_from f a (x ∷ xs) = let h = greatest_from f (max (f x) a) xs in omega arith

pub greatest_folds : {X : Type 0} (f : X → ℕ) (xs : List X) → fold (λ a x. max (f x) a) 0 xs ≡ greatest f xs
greatest_folds f xs = let h = greatest_from f 0 xs in omega arith
