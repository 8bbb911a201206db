-- Numbers and the words that spell them.
use Rattle.std.proofs.Common.{◌≡◌, ℕ, suc, ◌-◌, ◌^◌, ◌<◌, ◌≤◌, true, false, not, ◌&&◌, ◌||◌, eqb, ltb, leb, List, [], ◌∷◌, length, get_or, drop, ℤ, pos, negsuc, Some, None, decimal, Option, sym, refl, ap, ◌∙◌, subst, ⊎_elim, arith, rules}
use Rattle.std.proofs.lemmas.Option.{none-some, same_Some}
use Rattle.std.proofs.lemmas.Fmt.{decimal_digit, decimal_nonempty, decimal-digits_value, digits_decimal, first_decimal, length-decimal-le, digits_value-decimal}
use Rattle.std.proofs.lemmas.Str.Parse.{IsNumeralModel, numerals_by_fold, digits_value_short}
use Rattle.std.proofs.lemmas.Bool.{and_from, and_left, and_parts, both_ways, cases_Bool, cases_eq, cond-false, cond-true, eq-eqb, eqb-true, false≢true, le-leb, leb-true, lt-leb, lt-ltb, ne_eqb, not_from_false, not-true, or_cases, or_left, or_right}
use Rattle.std.specs.Fmt.{signed_decimal}
use Rattle.std.proofs.lemmas.Slice.Eq.{bytes_eq-Decides}
use Rattle.words.proofs.Runs.{digit_at}
use Rattle.text.specs.Scripts.{IsGain}
use Rattle.words.specs.Bytes.{all_digits, all_letters, is_digit, is_letter}
use Rattle.words.specs.Numbers.{between, gain, is_negative, negative, positive, read_on, unsigned, well_spelt, whole}
use Rattle.words.specs.Words.{Spelling, gain_of, has_digits, is_name, is_one, name, number, spelling, unknown, whole_of}

pub own : IsNumeralModel (λ ds. all_digits ds ≡ true) (read_on 0)
unfolding all_digits read_on
own = numerals_by_fold _ (search rules) read_on (search rules)

pub small : (n : ℕ) → n < 10 ^ 6 → n < 2 ^ 64
small n h = omega arith

-- the number that a decimal writes
pub whole_decimal : (n : ℕ) → n < 10 ^ 6 → whole (decimal n) ≡ Some n
whole_decimal n h =
    cond-true (well_spelt (decimal n)) _ _ (and_from _ _ (digits_decimal own n (small n h)) (and_from _ _ (and_from _ _ (le-leb 1 _ (decimal_nonempty n (small n h))) (le-leb _ 6 (length-decimal-le 6 n (omega arith) h (small n h)))) first))
    ∙ ap Some (digits_value-decimal own n (small n h))
  where
    first : (eqb (length (decimal n)) 1 || not (eqb (get_or (decimal n) 0 0) 48)) ≡ true
    first =
        ⊎_elim (λ (z : n ≡ 0). or_left (eqb (length (decimal n)) 1) _ (eq-eqb (length (decimal n)) 1 (ap (λ m. length (decimal m)) z ∙ ap length (decimal_digit 0 (omega arith)))))
        (λ (z : n ≡ 0 → ⊥). or_right (eqb (length (decimal n)) 1) _ (not_from_false _ (ne_eqb (get_or (decimal n) 0 0) 48 (λ e. let f = first_decimal n (omega arith) (small n h) in omega arith))))
        (cases_eq n 0)

-- what is read as a number is its decimal
pub whole_sound : (ds : List ℕ) (n : ℕ) → whole ds ≡ Some n → (ds ≡ decimal n) × (n < 10 ^ 6)
whole_sound ds n h = ⊎_elim yes no' (cases_Bool (well_spelt ds))
  where
    no' : well_spelt ds ≡ false → (ds ≡ decimal n) × (n < 10 ^ 6)
    no' e = absurd (none-some _ (sym (cond-false (well_spelt ds) (Some (read_on 0 ds)) None e) ∙ h))

    yes : well_spelt ds ≡ true → (ds ≡ decimal n) × (n < 10 ^ 6)
    yes e =
        let v : read_on 0 ds ≡ n = same_Some _ _ (sym (cond-true (well_spelt ds) (Some (read_on 0 ds)) None e) ∙ h) in
        let d = and_parts (all_digits ds) _ e in
        let l = and_parts (leb 1 (length ds) && leb (length ds) 6) _ d.1 in
        let l2 = and_parts (leb 1 (length ds)) (leb (length ds) 6) l.0 in
        let lo : 1 ≤ length ds = leb-true 1 (length ds) l2.0 in
        let hi : length ds ≤ 6 = leb-true (length ds) 6 l2.1 in
        let b : read_on 0 ds < 10 ^ 6 = digits_value_short own ds 6 d.0 hi in
        let f : get_or ds 0 0 ≡ 48 → length ds ≡ 1 = λ z. ⊎_elim (eqb-true (length ds) 1) (λ w. absurd (both_ways _ (not-true _ w) (eq-eqb (get_or ds 0 0) 48 z))) (or_cases (eqb (length ds) 1) (not (eqb (get_or ds 0 0) 48)) l.1) in
        (sym (ap decimal (sym v) ∙ decimal-digits_value own ds d.0 (omega arith) f (small (read_on 0 ds) b)), subst (λ m. m < 10 ^ 6) v b)

-- digits are the word of a number
pub digits_spelling : (ds : List ℕ) → all_digits ds ≡ true → 0 < length ds → spelling ds ≡ number ds
unfolding spelling all_digits all_letters
digits_spelling [] e h = absurd (omega arith)
digits_spelling (d ∷ ds) e h =
    let p = and_parts (leb 48 d) (leb d 57) (and_parts (is_digit d) (all_digits ds) e).0 in
    let lo : 48 ≤ d = leb-true 48 d p.0 in
    let hi : d ≤ 57 = leb-true d 57 p.1 in
    let u : unsigned (d ∷ ds) ≡ d ∷ ds = cond-false (eqb d 45) ds (d ∷ ds) (ne_eqb d 45 (λ z. omega arith)) in
    cond-false (all_letters (d ∷ ds)) _ _ (and_left (is_letter d) (all_letters ds) (and_left (leb 97 d) (leb d 122) (lt-leb 97 d (omega arith))))
    ∙ cond-true (has_digits (unsigned (d ∷ ds))) _ _ (ap has_digits u ∙ and_from (ltb 0 (suc (length ds))) (all_digits (d ∷ ds)) (lt-ltb 0 (suc (length ds)) (omega arith)) e)

pub hyphen_spelling : (ds : List ℕ) → all_digits ds ≡ true → 0 < length ds → spelling (45 ∷ ds) ≡ number (45 ∷ ds)
unfolding spelling all_digits all_letters
hyphen_spelling ds e h = cond-true (has_digits ds) _ _ (and_from (ltb 0 (length ds)) (all_digits ds) (lt-ltb 0 (length ds) h) e)

pub decimal_spelling : (n : ℕ) → n < 10 ^ 6 → spelling (decimal n) ≡ number (decimal n)
decimal_spelling n h = digits_spelling (decimal n) (digits_decimal own n (small n h)) (decimal_nonempty n (small n h))

pub between_sound : (low high : ℕ) (o : Option ℕ) (n : ℕ) → between low high o ≡ Some n → (o ≡ Some n) × (low ≤ n) × (n ≤ high)
between_sound low high None n h = absurd (none-some _ h)
between_sound low high (Some m) n h = ⊎_elim yes no' (cases_Bool (leb low m && leb m high))
  where
    yes : (leb low m && leb m high) ≡ true → (Some m ≡ Some n) × (low ≤ n) × (n ≤ high)
    yes e =
        let same : m ≡ n = same_Some _ _ (sym (cond-true (leb low m && leb m high) (Some m) None e) ∙ h) in
        let p = and_parts (leb low m) (leb m high) e in
        let a = leb-true low m p.0 in
        let b = leb-true m high p.1 in
        (ap Some same, omega arith, omega arith)

    no' : (leb low m && leb m high) ≡ false → (Some m ≡ Some n) × (low ≤ n) × (n ≤ high)
    no' e = absurd (none-some _ (sym (cond-false (leb low m && leb m high) (Some m) None e) ∙ h))

pub between_complete : (low high n : ℕ) → low ≤ n → n ≤ high → between low high (Some n) ≡ Some n
between_complete low high n a b = cond-true (leb low n && leb n high) _ _ (and_from _ _ (le-leb low n a) (le-leb n high b))

-- a word that is a number from low to high
abbrev pub NumberWord : ℕ → ℕ → ℕ → Spelling → Type 0
NumberWord low high n w = (w ≡ spelling (decimal n)) × (low ≤ n) × (n ≤ high)

whole_of_sound : (w : Spelling) (n : ℕ) → whole_of w ≡ Some n → (w ≡ spelling (decimal n)) × (n < 10 ^ 6)
whole_of_sound (name bs) n h = absurd (none-some _ h)
whole_of_sound (number bs) n h = let p = whole_sound bs n h in (ap number p.0 ∙ sym (decimal_spelling n p.1), p.1)
whole_of_sound (unknown bs) n h = absurd (none-some _ h)

pub number_sound : (low high : ℕ) (w : Spelling) (n : ℕ) → between low high (whole_of w) ≡ Some n → NumberWord low high n w
number_sound low high w n h = let b = between_sound low high (whole_of w) n h in ((whole_of_sound w n b.0).0, b.1, b.2)

pub number_complete : (low high : ℕ) (w : Spelling) (n : ℕ) → high < 10 ^ 6 → NumberWord low high n w → between low high (whole_of w) ≡ Some n
number_complete low high w n small' h =
    let lo = h.1 in
    let hi = h.2 in
    let few : n < 10 ^ 6 = omega arith in
    ap (λ v. between low high (whole_of v)) (h.0 ∙ decimal_spelling n few) ∙ ap (between low high) (whole_decimal n few) ∙ between_complete low high n lo hi

-- gains
head_hyphen : (bs : List ℕ) → eqb (get_or bs 0 0) 45 ≡ true → bs ≡ 45 ∷ drop 1 bs
head_hyphen [] h = absurd (false≢true h)
head_hyphen (b ∷ bs) h = ap (λ x. x ∷ bs) (eqb-true b 45 h)

positive_sound : (o : Option ℕ) (z : ℤ) → positive o ≡ Some z → (n : ℕ) × (o ≡ Some n) × (pos n ≡ z)
positive_sound None z h = absurd (none-some _ h)
positive_sound (Some n) z h = (n, refl, same_Some _ _ h)

negative_sound : (o : Option ℕ) (z : ℤ) → negative o ≡ Some z → (n : ℕ) × (o ≡ Some n) × (negsuc (n - 1) ≡ z)
negative_sound None z h = absurd (none-some _ h)
negative_sound (Some n) z h = (n, refl, same_Some _ _ h)

pub gain_sound : (bs : List ℕ) (z : ℤ) → gain bs ≡ Some z → (bs ≡ signed_decimal z) × IsGain z
gain_sound bs z h = ⊎_elim neg po (cases_Bool (is_negative bs))
  where
    neg : is_negative bs ≡ true → (bs ≡ signed_decimal z) × IsGain z
    neg e =
        let s = negative_sound _ z (sym (cond-true (is_negative bs) _ _ e) ∙ h) in
        let n = s.0 in
        let b = between_sound 1 32768 (whole (unsigned bs)) n s.1 in
        let d = whole_sound (unsigned bs) n b.0 in
        let lo : 1 ≤ n = b.1 in
        let hi : n ≤ 32768 = b.2 in
        let up : n ≡ suc (n - 1) = omega arith in (
          head_hyphen bs e ∙ ap (λ l. 45 ∷ l) (sym (cond-true (eqb (get_or bs 0 0) 45) (drop 1 bs) bs e) ∙ d.0 ∙ ap decimal up) ∙ ap signed_decimal s.2,
          subst IsGain s.2 (omega arith),
        )

    po : is_negative bs ≡ false → (bs ≡ signed_decimal z) × IsGain z
    po e =
        let s = positive_sound _ z (sym (cond-false (is_negative bs) _ _ e) ∙ h) in
        let n = s.0 in
        let b = between_sound 0 32767 (whole (unsigned bs)) n s.1 in
        let d = whole_sound (unsigned bs) n b.0 in
        (sym (cond-false (eqb (get_or bs 0 0) 45) (drop 1 bs) bs e) ∙ d.0 ∙ ap signed_decimal s.2, subst IsGain s.2 b.2)

pub gain_complete : (z : ℤ) → IsGain z → gain (signed_decimal z) ≡ Some z
gain_complete (pos n) h =
    let few : n < 10 ^ 6 = omega arith in
    let d = digit_at (decimal n) 0 (digits_decimal own n (small n few)) (decimal_nonempty n (small n few)) in
    let lo = d.0 in
    let e : is_negative (decimal n) ≡ false = ne_eqb (get_or (decimal n) 0 0) 45 (λ z. omega arith) in
    cond-false (is_negative (decimal n)) _ _ e
    ∙ ap (λ l. positive (between 0 32767 (whole l))) (cond-false (eqb (get_or (decimal n) 0 0) 45) (drop 1 (decimal n)) (decimal n) e)
    ∙ ap (λ o. positive (between 0 32767 o)) (whole_decimal n few) ∙ ap positive (between_complete 0 32767 n (omega arith) h)
gain_complete (negsuc n) h =
    let few : suc n < 10 ^ 6 = omega arith in
    let back : suc n - 1 ≡ n = omega arith in
    ap (λ o. negative (between 1 32768 o)) (whole_decimal (suc n) few) ∙ ap negative (between_complete 1 32768 (suc n) (omega arith) (omega arith)) ∙ ap (λ m. Some (negsuc m)) back

pub signed_spelling : (z : ℤ) → IsGain z → spelling (signed_decimal z) ≡ number (signed_decimal z)
signed_spelling (pos n) h = decimal_spelling n (omega arith)
signed_spelling (negsuc n) h =
    let few : suc n < 10 ^ 6 = omega arith in
    hyphen_spelling (decimal (suc n)) (digits_decimal own (suc n) (small (suc n) few)) (decimal_nonempty (suc n) (small (suc n) few))

-- a word that is a gain
abbrev pub GainWord : ℤ → Spelling → Type 0
GainWord z w = (w ≡ spelling (signed_decimal z)) × IsGain z

pub gain_of_sound : (w : Spelling) (z : ℤ) → gain_of w ≡ Some z → GainWord z w
gain_of_sound (name bs) z h = absurd (none-some _ h)
gain_of_sound (number bs) z h = let p = gain_sound bs z h in (ap number p.0 ∙ sym (signed_spelling z p.1), p.1)
gain_of_sound (unknown bs) z h = absurd (none-some _ h)

pub gain_of_complete : (w : Spelling) (z : ℤ) → GainWord z w → gain_of w ≡ Some z
gain_of_complete w z h = ap gain_of (h.0 ∙ signed_spelling z h.1) ∙ gain_complete z h.1

-- names
pub name_sound : (key : List ℕ) (w : Spelling) → is_name key w ≡ true → w ≡ name key
name_sound key (name bs) h = ap name ((bytes_eq-Decides bs key).0 h)
name_sound key (number bs) h = absurd (false≢true h)
name_sound key (unknown bs) h = absurd (false≢true h)

pub name_complete : (key : List ℕ) (w : Spelling) → w ≡ name key → is_name key w ≡ true
name_complete key w h = ap (is_name key) h ∙ (bytes_eq-Decides key key).1 refl

pub one_sound : (w : Spelling) → is_one w ≡ true → w ≡ number (49 ∷ [])
one_sound (name bs) h = absurd (false≢true h)
one_sound (number bs) h = ap number ((bytes_eq-Decides bs (49 ∷ [])).0 h)
one_sound (unknown bs) h = absurd (false≢true h)
