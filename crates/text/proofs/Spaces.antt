-- Where words should begin, one word further.
use Rattle.std.proofs.Common.{◌≡◌, ℕ, ◌+◌, true, false, eqb, List, [], ◌∷◌, length, Ok, Err, refl}
use Rattle.std.proofs.lemmas.Bool.{cond-false, cond-true}
use Rattle.text.specs.Reading.{spaces_check}
use Rattle.words.specs.declared.faults.ReadFault.TheVariants.{Space}

pub spaces_none : (row c : ℕ) → spaces_check row c [] ≡ Ok tt
unfolding spaces_check
spaces_none row c = refl

module _ (row c : ℕ) (p : List ℕ) (ps : List (List ℕ)) where
  pub spaces_gap : eqb (length p) 0 ≡ true → spaces_check row c (p ∷ ps) ≡ Err (Space (record { line = row; column = c }))
  unfolding spaces_check
  spaces_gap e = cond-true _ _ _ e

  pub spaces_more : eqb (length p) 0 ≡ false → spaces_check row c (p ∷ ps) ≡ spaces_check row (c + length p + 1) ps
  unfolding spaces_check
  spaces_more e = cond-false _ _ _ e
