-- What is joined of the values that come along the lines into a node.
use Rattle.std.proofs.Common.{◌≡◌, ℕ, List, [], ◌∷◌, Some, None, Option, refl, ap}
use Rattle.patch.specs.Sweeps.{Kind, joined, joined_on, swept}
use Rattle.session.specs.Plan.{Plan, line, lines_into}
use Rattle.signals.proofs.Lines.{EachInto, all_lines, map_same}

-- Some values joined, if there are any.
abbrev pub collected : {X : Type 0} → (X → X → X) → List X → Option X
collected join [] = None
collected join (x ∷ xs) = Some (joined_on join x xs)

abbrev pub joined_to : {X : Type 0} → (X → X → X) → Option X → X → X
joined_to join None y = y
joined_to join (Some x) y = join x y

-- A node hears the same from starts that have the same values.
pub swept_same : {X : Type 0} (kind : Kind X) (p : Plan) (a b : ℕ → X) (v : ℕ)
    → EachInto p v (λ i. a (line p i).start ≡ b (line p i).start) → swept kind p a v ≡ swept kind p b v
swept_same kind p a b v h =
    ap (λ xs. kind.step v (joined kind xs))
    (map_same (λ i. a (line p i).start) (λ i. b (line p i).start) (lines_into p v)
    (all_lines p v (λ i. a (line p i).start ≡ b (line p i).start) h))

-- Values joined to what was heard before.
abbrev pub collected_from : {X : Type 0} → (X → X → X) → Option X → List X → Option X
collected_from join heard [] = heard
collected_from join heard (x ∷ xs) = collected_from join (Some (joined_to join heard x)) xs

from_some : {X : Type 0} (join : X → X → X) (x : X) (xs : List X) → collected_from join (Some x) xs ≡ Some (joined_on join x xs)
from_some join x [] = refl
from_some join x (y ∷ xs) = from_some join (join x y) xs

pub from_none : {X : Type 0} (join : X → X → X) (xs : List X) → collected_from join None xs ≡ collected join xs
from_none join [] = refl
from_none join (x ∷ xs) = from_some join x xs
