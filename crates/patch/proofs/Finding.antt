-- The first number that passes a test.
use Rattle.std.proofs.Common.{◌≡◌, ℕ, zero, suc, ◌+◌, ◌<◌, ◌≤◌, Bool, true, false, cond, List, [], ◌∷◌, length, get_or, Some, None, Option, sym, refl, ap, ap₂, ◌∙◌, inl, inr, arith}
use Rattle.patch.specs.Due.{lacks, lowest_lacking}
use Rattle.patch.specs.Placing.{lowest, plan_of}
use Rattle.session.specs.Plan.{node}
use Rattle.session.specs.declared.nodes.Line.{Line}
use Rattle.session.specs.declared.nodes.Node.{Node}
use Rattle.session.specs.declared.nodes.Source.TheVariants.{Bus}
use Rattle.std.proofs.lemmas.Option.{none-some}
use Rattle.std.proofs.lemmas.Bool.{cases_eq, cond_both, cond-false, cond-true}
use Rattle.std.proofs.lemmas.Iterator.Adapters.{position_from-zero}
use Rattle.std.specs.List.{find, position, position_from, range_with_len}

first_none : (test : ℕ → Bool) (a n : ℕ) → ((w : ℕ) → w < a + n → test w ≡ false) → find test (range_with_len a n) ≡ None
first_none test a zero h = refl
first_none test a (suc n) h =
    cond-false (test a) (Some a) (find test (range_with_len (a + 1) n)) (h a (omega arith)) ∙ first_none test (a + 1) n (λ w l. h w (omega arith))

first_some : (test : ℕ → Bool) (a n v : ℕ) → a ≤ v → v < a + n → test v ≡ true → ((w : ℕ) → w < v → test w ≡ false)
    → find test (range_with_len a n) ≡ Some v
first_some test a zero v l b t h = absurd (omega arith)
first_some test a (suc n) v l b t h =
    elim (cases_eq a v) [
      | inl e ↦ cond-true (test a) (Some a) (find test (range_with_len (a + 1) n)) (ap test e ∙ t) ∙ ap Some e
      | inr ne ↦
          cond-false (test a) (Some a) (find test (range_with_len (a + 1) n)) (h a (omega arith))
          ∙ first_some test (a + 1) n v (omega arith) (omega arith) t h
    ]

pub lowest_none : (test : ℕ → Bool) (n : ℕ) → ((w : ℕ) → w < n → test w ≡ false) → lowest test n ≡ None
lowest_none test n h = first_none test 0 n (λ w l. h w (omega arith))

pub lowest_some : (test : ℕ → Bool) (n v : ℕ) → v < n → test v ≡ true → ((w : ℕ) → w < v → test w ≡ false) → lowest test n ≡ Some v
lowest_some test n v b t h = first_some test 0 n v (omega arith) (omega arith) t h

-- The position of the first item that passes is the lowest number whose item does.
from_position : {X : Type 0} (test : X → Bool) (d : X) (f : ℕ → Bool) (xs : List X) (i : ℕ)
    → ((v : ℕ) → v < length xs → test (get_or xs v d) ≡ f (i + v)) → position_from test i xs ≡ find f (range_with_len i (length xs))
from_position test d f [] i same = refl
from_position test d f (x ∷ xs) i same =
    ap₂ (λ b o. cond b (Some i) o) (same 0 (omega arith) ∙ ap f (omega arith))
    (from_position test d f xs (i + 1) (λ v l. same (suc v) (omega arith) ∙ ap f (omega arith)))

pub position_is_lowest : {X : Type 0} (test : X → Bool) (d : X) (f : ℕ → Bool) (xs : List X)
    → ((v : ℕ) → v < length xs → test (get_or xs v d) ≡ f v) → position test xs ≡ lowest f (length xs)
position_is_lowest test d f xs same = position_from-zero test xs ∙ from_position test d f xs 0 (λ v l. same v l ∙ ap f (omega arith))

pub lacking_is_lowest : (nodes : List Node) (lines : List Line) (count : ℕ)
    → position (λ n. lacks count n.unit) nodes ≡ lowest_lacking (plan_of nodes lines) count
lacking_is_lowest nodes lines count =
    position_is_lowest (λ n. lacks count n.unit) (record { source = Bus; unit = None }) (λ v. lacks count (node (plan_of nodes lines) v).unit) nodes (λ v l. refl)

-- What a lowest number tells.
data Tells (test : ℕ → Bool) (a b : ℕ) : Option ℕ → Type 0 where
  none : ((w : ℕ) → a ≤ w → w < b → test w ≡ false) → Tells test a b None
  some : {v : ℕ} → a ≤ v → v < b → test v ≡ true → ((w : ℕ) → a ≤ w → w < v → test w ≡ false) → Tells test a b (Some v)

from_next : (test : ℕ → Bool) (a b : ℕ) {o : Option ℕ} → test a ≡ false → Tells test (a + 1) b o → Tells test a b o
from_next test a b f (none h) = none (λ w l m. elim (cases_eq a w) [ inl e ↦ ap test (sym e) ∙ f | inr ne ↦ h w (omega arith) m ])
from_next test a b f (some l m t h) =
    some (omega arith) m t (λ w k j. elim (cases_eq w a) [ inl e ↦ ap test e ∙ f | inr ne ↦ h w (omega arith) j ])

first_tells : (test : ℕ → Bool) (a n b : ℕ) → a + n ≡ b → Tells test a b (find test (range_with_len a n))
first_tells test a zero b e = none (λ w l m. absurd (omega arith))
first_tells test a (suc n) b e =
    cond_both (test a) (Some a) (find test (range_with_len (a + 1) n)) (Tells test a b)
    (λ t. some (omega arith) (omega arith) t (λ w l m. absurd (omega arith)))
    (λ f. from_next test a b f (first_tells test (a + 1) n b (omega arith)))

-- With a number found, the rest follows from what it tells; without one, no number passes.
pub by_lowest : (test : ℕ → Bool) (n : ℕ) (P : Option ℕ → Type 0)
    → (((w : ℕ) → w < n → test w ≡ false) → P None)
    → ((v : ℕ) → v < n → test v ≡ true → ((w : ℕ) → w < v → test w ≡ false) → P (Some v))
    → P (lowest test n)
by_lowest test n P without found = go (first_tells test 0 n n (omega arith))
  where
    go : {o : Option ℕ} → Tells test 0 n o → P o
    go (none h) = without (λ w l. h w (omega arith) l)
    go (some {v} l m t h) = found v m t (λ w j. h w (omega arith) j)

pub none_passes : (test : ℕ → Bool) (n : ℕ) → lowest test n ≡ None → (w : ℕ) → w < n → test w ≡ false
none_passes test n =
    by_lowest test n (λ o. o ≡ None → (w : ℕ) → w < n → test w ≡ false) (λ h _. h) (λ u b t h e. absurd (none-some u (sym e)))
