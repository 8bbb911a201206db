-- What the steps that read one word accept.
use Rattle.std.proofs.Common.{◌≡◌, ℕ, ◌%◌, ◌^◌, ◌<◌, ◌≤◌, true, eqb, List, ◌∷◌, ℤ, Some, decimal, refl, ap, ◌∙◌, arith}
use Rattle.forms.specs.Forms.{count_form, numbered, role_fits, role_most}
use Rattle.session.specs.Contents.{Contents}
use Rattle.std.proofs.lemmas.Bool.{eq-eqb, eqb-true}
use Rattle.std.specs.Fmt.{signed_decimal}
use Rattle.text.proofs.Grammar.{Ends, Head, ends_ask, ends_asked, ends_assoc, ends_to, ends_word}
use Rattle.text.proofs.Spelt.{gain_of_complete, gain_of_sound, name_complete, name_sound, number_complete, number_sound}
use Rattle.text.specs.Scripts.{IsGain}
use Rattle.words.specs.Numbers.{between}
use Rattle.words.specs.Parsing.{Parse, ◌>>=◌, ◌>>◌, ask, asked, gain_word, give, keyword, number_in, ranged, word}
use Rattle.words.specs.Words.{Spelling, gain_of, is_name, name, spelling, whole_of}
use Rattle.words.specs.declared.faults.ReadFault.TheVariants.{Fit, Form, Number}
use Rattle.forms.specs.declared.roles.Role.{Role}
use Rattle.forms.specs.declared.roles.Role.TheVariants.{NewUnit, SetUnit, FreeUnit, NextNode, AnyNode, BusNode}

module _ {Y : Type 0} (f : ℕ → Parse Y) (M : ℕ → Y → List Spelling → Type 0) (each : (n : ℕ) → Ends (f n) (M n)) where
  -- a number from low to high
  abbrev pub ANumber : ℕ → ℕ → Y → List Spelling → Type 0
  ANumber low high y ws = (n : ℕ) × (vs : List Spelling) × (ws ≡ spelling (decimal n) ∷ vs) × (low ≤ n) × (n ≤ high) × M n y vs

  pub ends_ranged : (low high : ℕ) → high < 10 ^ 6 → Ends (ranged low high >>= f) (ANumber low high)
  ends_ranged low high few =
      ends_to (ANumber low high)
      (ends_assoc word (number_in low high) f (Head raw) (ends_word (λ w. number_in low high w >>= f) raw (λ w. ends_asked (between low high (whole_of w.word)) (Number w.place) f M each)))
      to from
    where
      raw : Spelling → Y → List Spelling → Type 0
      raw w y vs = (n : ℕ) × (between low high (whole_of w) ≡ Some n) × M n y vs

      to : (y : Y) (ws : List Spelling) → Head raw y ws → ANumber low high y ws
      to y ws h = let s = number_sound low high h.0 h.3.0 h.3.1 in (h.3.0, h.1, h.2 ∙ ap (λ v. v ∷ h.1) s.0, s.1, s.2, h.3.2)

      from : (y : Y) (ws : List Spelling) → ANumber low high y ws → Head raw y ws
      from y ws h = (spelling (decimal h.0), h.1, h.2, (h.0, number_complete low high (spelling (decimal h.0)) h.0 few (refl, h.3, h.4), h.5))

  -- a number that fits in its role
  abbrev pub ANumbered : Contents → Role → Y → List Spelling → Type 0
  ANumbered c role y ws = (n : ℕ) × (vs : List Spelling) × (ws ≡ spelling (decimal n) ∷ vs) × (n ≤ role_most role) × (role_fits c role n ≡ true) × M n y vs

  role_few : (role : Role) → role_most role < 10 ^ 6
  role_few NewUnit = omega arith
  role_few SetUnit = omega arith
  role_few FreeUnit = omega arith
  role_few NextNode = omega arith
  role_few AnyNode = omega arith
  role_few BusNode = omega arith

  pub ends_numbered : (c : Contents) (role : Role) → Ends (numbered c role >>= f) (ANumbered c role)
  ends_numbered c role =
      ends_to (ANumbered c role)
      (ends_assoc word (λ w. number_in 0 (role_most role) w >>= (λ n. ask (role_fits c role n) (Fit w.place) >> give n)) f (Head raw)
      (ends_word _ raw (λ w. ends_assoc (number_in 0 (role_most role) w) (λ n. ask (role_fits c role n) (Fit w.place) >> give n) f (raw w.word)
      (ends_asked (between 0 (role_most role) (whole_of w.word)) (Number w.place) _ (λ n y vs. (role_fits c role n ≡ true) × M n y vs)
      (λ n. ends_assoc (ask (role_fits c role n) (Fit w.place)) (λ _. give n) f _ (ends_ask (role_fits c role n) (Fit w.place) (f n) (M n) (each n)))))))
      to from
    where
      raw : Spelling → Y → List Spelling → Type 0
      raw w y vs = (n : ℕ) × (between 0 (role_most role) (whole_of w) ≡ Some n) × ((role_fits c role n ≡ true) × M n y vs)

      to : (y : Y) (ws : List Spelling) → Head raw y ws → ANumbered c role y ws
      to y ws h = let s = number_sound 0 (role_most role) h.0 h.3.0 h.3.1 in (h.3.0, h.1, h.2 ∙ ap (λ v. v ∷ h.1) s.0, s.2, h.3.2.0, h.3.2.1)

      from : (y : Y) (ws : List Spelling) → ANumbered c role y ws → Head raw y ws
      from y ws h = (spelling (decimal h.0), h.1, h.2, (h.0, number_complete 0 (role_most role) (spelling (decimal h.0)) h.0 (role_few role) (refl, omega arith, h.3), (h.4, h.5)))

  -- an odd number of taps
  abbrev pub ACount : Y → List Spelling → Type 0
  ACount y ws = (n : ℕ) × (vs : List Spelling) × (ws ≡ spelling (decimal n) ∷ vs) × (n ≤ 31) × (n % 2 ≡ 1) × M n y vs

  pub ends_count : Ends (count_form >>= f) ACount
  ends_count =
      ends_to ACount
      (ends_assoc word (λ w. number_in 1 31 w >>= (λ n. ask (eqb (n % 2) 1) (Number w.place) >> give n)) f (Head raw)
      (ends_word _ raw (λ w. ends_assoc (number_in 1 31 w) (λ n. ask (eqb (n % 2) 1) (Number w.place) >> give n) f (raw w.word)
      (ends_asked (between 1 31 (whole_of w.word)) (Number w.place) _ (λ n y vs. (eqb (n % 2) 1 ≡ true) × M n y vs)
      (λ n. ends_assoc (ask (eqb (n % 2) 1) (Number w.place)) (λ _. give n) f _ (ends_ask (eqb (n % 2) 1) (Number w.place) (f n) (M n) (each n)))))))
      to from
    where
      raw : Spelling → Y → List Spelling → Type 0
      raw w y vs = (n : ℕ) × (between 1 31 (whole_of w) ≡ Some n) × ((eqb (n % 2) 1 ≡ true) × M n y vs)

      to : (y : Y) (ws : List Spelling) → Head raw y ws → ACount y ws
      to y ws h = let s = number_sound 1 31 h.0 h.3.0 h.3.1 in (h.3.0, h.1, h.2 ∙ ap (λ v. v ∷ h.1) s.0, s.2, eqb-true _ 1 h.3.2.0, h.3.2.1)

      from : (y : Y) (ws : List Spelling) → ACount y ws → Head raw y ws
      from y ws h =
          let odd = h.4 in
          let n = h.0 in
          let some : 1 ≤ n = omega arith in
          (spelling (decimal n), h.1, h.2, (n, number_complete 1 31 (spelling (decimal n)) n (omega arith) (refl, some, h.3), (eq-eqb (n % 2) 1 odd, h.5)))

module _ {Y : Type 0} (f : ℤ → Parse Y) (M : ℤ → Y → List Spelling → Type 0) (each : (g : ℤ) → Ends (f g) (M g)) where
  abbrev pub AGain : Y → List Spelling → Type 0
  AGain y ws = (g : ℤ) × (vs : List Spelling) × (ws ≡ spelling (signed_decimal g) ∷ vs) × IsGain g × M g y vs

  pub ends_gain : Ends (gain_word >>= f) AGain
  ends_gain =
      ends_to AGain
      (ends_assoc word (λ w. asked (gain_of w.word) (Number w.place)) f (Head raw) (ends_word _ raw (λ w. ends_asked (gain_of w.word) (Number w.place) f M each)))
      to from
    where
      raw : Spelling → Y → List Spelling → Type 0
      raw w y vs = (g : ℤ) × (gain_of w ≡ Some g) × M g y vs

      to : (y : Y) (ws : List Spelling) → Head raw y ws → AGain y ws
      to y ws h = let s = gain_of_sound h.0 h.3.0 h.3.1 in (h.3.0, h.1, h.2 ∙ ap (λ v. v ∷ h.1) s.0, s.1, h.3.2)

      from : (y : Y) (ws : List Spelling) → AGain y ws → Head raw y ws
      from y ws h = (spelling (signed_decimal h.0), h.1, h.2, (h.0, gain_of_complete (spelling (signed_decimal h.0)) h.0 (refl, h.3), h.4))

module _ {Y : Type 0} (q : Parse Y) (L : Y → List Spelling → Type 0) (r : Ends q L) (key : List ℕ) where
  abbrev pub AName : Y → List Spelling → Type 0
  AName y ws = (vs : List Spelling) × (ws ≡ name key ∷ vs) × L y vs

  pub ends_keyword : Ends (keyword key >> q) AName
  ends_keyword =
      ends_to AName
      (ends_assoc word (λ w. ask (is_name key w.word) (Form w.place)) (λ _. q) (Head raw) (ends_word _ raw (λ w. ends_ask (is_name key w.word) (Form w.place) q L r)))
      to from
    where
      raw : Spelling → Y → List Spelling → Type 0
      raw w y vs = (is_name key w ≡ true) × L y vs

      to : (y : Y) (ws : List Spelling) → Head raw y ws → AName y ws
      to y ws h = (h.1, h.2 ∙ ap (λ v. v ∷ h.1) (name_sound key h.0 h.3.0), h.3.1)

      from : (y : Y) (ws : List Spelling) → AName y ws → Head raw y ws
      from y ws h = (name key, h.0, h.1, (name_complete key (name key) refl, h.2))
