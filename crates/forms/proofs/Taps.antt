-- Taps, one after the other.
use Rattle.std.proofs.Common.{◌≡◌, ℕ, zero, suc, ◌+◌, List, set, ℤ, Ok, Err, sym, refl, ap}
use Rattle.forms.specs.Forms.{taps_form}
use Rattle.words.specs.Parsing.{gain_word, then}
use Rattle.words.specs.Words.{Cursor}
use Rattle.words.specs.declared.faults.ReadFault.{ReadFault}

module _ (i n : ℕ) (taps : List ℤ) (k : Cursor) where
  pub taps_more : (g : ℤ) (k' : Cursor) → Ok (g, k') ≡ gain_word k → taps_form i (suc n) taps k ≡ taps_form (i + 1) n (set taps i g) k'
  unfolding taps_form
  taps_more g k' e = ap (λ r. then r (λ g. taps_form (i + 1) n (set taps i g))) (sym e)

  pub taps_stop : (f : ReadFault) → Err f ≡ gain_word k → taps_form i (suc n) taps k ≡ Err f
  unfolding taps_form
  taps_stop f e = ap (λ r. then r (λ g. taps_form (i + 1) n (set taps i g))) (sym e)

pub taps_end : (i : ℕ) (taps : List ℤ) (k : Cursor) → taps_form i zero taps k ≡ Ok (taps, k)
unfolding taps_form
taps_end i taps k = refl
