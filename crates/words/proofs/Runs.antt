-- Bytes of one class, one byte further.
use Rattle.std.proofs.Common.{◌≡◌, ℕ, zero, suc, ◌+◌, ◌-◌, ◌*◌, ◌^◌, ◌<◌, ◌≤◌, Bool, true, false, cond, not, eqb, List, [], ◌∷◌, length, get_or, drop, sym, refl, ap, ◌∙◌, ⊎_elim, add-one, arith}
use native.Mathlib.Nat.{pow-succ'}
use Rattle.std.specs.List.{position, position_or_len}
use Rattle.std.specs.Option.{unwrap_or}
use Rattle.std.proofs.lemmas.List.{at_drop_all, at_drop_more}
use Rattle.std.proofs.lemmas.List.Recursion.{is_position_or_len}
use Rattle.std.proofs.lemmas.List.Sums.{prefix_len-le-length}
use Rattle.std.proofs.lemmas.Bool.{and_parts, cases_lt, cond-false, cond-true, le-ltb, leb-true, lt-ltb}
use Rattle.words.specs.Bytes.{all_digits, is_known, known_run}
use Rattle.words.specs.Numbers.{read_on}
use Rattle.words.specs.Pieces.{upto}

-- the first place, or the length where there is none
first_or_length : {X : Type 0} (p : X → Bool) (xs : List X) → unwrap_or (position p xs) (length xs) ≡ position_or_len p xs
first_or_length p xs = ⊎_elim
    (λ l. ap (λ o. unwrap_or o (length xs)) (cond-true _ _ _ (lt-ltb _ _ l)))
    (λ g. ap (λ o. unwrap_or o (length xs)) (cond-false _ _ _ (le-ltb _ _ g)) ∙ (let m = prefix_len-le-length (λ x. not (p x)) xs in omega arith))
    (cases_lt (position_or_len p xs) (length xs))

-- where the first byte stands that is not known
pub known_is : (xs : List ℕ) → unwrap_or (position (λ b. not (is_known b)) xs) (length xs) ≡ known_run xs
unfolding known_run
known_is xs = first_or_length _ xs ∙ sym (is_position_or_len known_run (λ b. not (is_known b)) refl (λ b bs. step (is_known b) (known_run bs)) xs)
  where
    step : (b : Bool) (n : ℕ) → cond b (suc n) zero ≡ cond (not b) 0 (1 + n)
    step true n = omega arith
    step false n = refl

pub upto_is : (m : ℕ) (xs : List ℕ) → unwrap_or (position (λ b. eqb b m) xs) (length xs) ≡ upto m xs
unfolding upto
upto_is m xs = first_or_length _ xs ∙ sym (is_position_or_len (upto m) (λ b. eqb b m) refl (λ b bs. ap (cond (eqb b m) 0) (omega arith)) xs)

module _ (xs : List ℕ) (i : ℕ) (h : i < length xs) where
  pub read_more : (n : ℕ) → read_on n (drop i xs) ≡ read_on (10 * n + (get_or xs i 0 - 48)) (drop (i + 1) xs)
  unfolding read_on
  read_more n = at_drop_more (read_on n) xs i 0 h

module _ (xs : List ℕ) (i : ℕ) (h : length xs ≤ i) where
  pub read_end : (n : ℕ) → read_on n (drop i xs) ≡ n
  unfolding read_on
  read_end n = at_drop_all (read_on n) xs i h

-- each of some digits is one
pub digit_at : (xs : List ℕ) (i : ℕ) → all_digits xs ≡ true → i < length xs → (48 ≤ get_or xs i 0) × (get_or xs i 0 ≤ 57)
unfolding all_digits
digit_at [] i e h = omega arith
digit_at (x ∷ xs) zero e h = let p = and_parts _ _ (and_parts _ _ e).0 in (leb-true 48 x p.0, leb-true x 57 p.1)
digit_at (x ∷ xs) (suc i) e h = digit_at xs i (and_parts _ _ e).1 (omega arith)

pub ten_times : (i : ℕ) → 10 ^ (i + 1) ≡ 10 * 10 ^ i
ten_times i = ap (λ k. 10 ^ k) (add-one i) ∙ pow-succ' 10 i
