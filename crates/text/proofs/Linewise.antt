-- A line and its words.
use Rattle.std.proofs.Common.{◌≡◌, ℕ, suc, ◌+◌, ◌<◌, Bool, true, false, cond, ◌||◌, eqb, ltb, leb, List, [], ◌∷◌, map, length, Ok, Err, Result, sym, refl, ap, ◌∙◌, subst, ap₂, ⊎_elim, arith}
use Rattle.session.specs.Contents.{Contents}
use Rattle.std.proofs.ByRecursion.{All-append, All-weaker}
use Rattle.std.proofs.lemmas.Bool.{cond_both, cond-false, cond-true, eqb-true, le-ltb, leb-true, and_parts, ne_eqb, or_cases, or_left, or_parts, or_right}
use Rattle.std.specs.List.{AllByRecursion}
use Rattle.text.proofs.Grammar.{Head, not_ok, words_in}
use Rattle.text.proofs.Joining.{Free, line_join, marked, split_join}
use Rattle.text.proofs.Wholes.{TurnWords, ends_whole}
use Rattle.text.specs.Reading.{bytes_check, line_read, passes, spaces_check, value_of}
use Rattle.text.specs.Scripts.{line_bytes}
use Rattle.text.specs.Turning.{Turned, whole_turn}
use Rattle.text.specs.declared.stages.Stage.{Stage}
use Rattle.words.specs.Bytes.{all_letters, is_digit, is_known, is_letter, known_run}
use Rattle.words.specs.Numbers.{unsigned}
use Rattle.words.specs.Pieces.{split}
use Rattle.words.specs.Words.{Cursor, Spelling, has_digits, line_words, name, number, placed, spelling, unknown}
use Rattle.words.specs.declared.faults.ReadFault.{ReadFault}
use Rattle.words.specs.declared.faults.ReadFault.TheVariants.{Byte}

pub words_placed : (ps : List (List ℕ)) (row c : ℕ) → words_in (placed row c ps) ≡ map spelling ps
unfolding placed
words_placed [] row c = refl
words_placed (p ∷ ps) row c = ap (λ l. spelling p ∷ l) (words_placed ps row (c + length p + 1))

-- a spelling shows its bytes
bytes_of : Spelling → List ℕ
bytes_of (name bs) = bs
bytes_of (number bs) = bs
bytes_of (unknown bs) = bs

shows : (bs : List ℕ) → bytes_of (spelling bs) ≡ bs
unfolding spelling bytes_of
shows bs = cond_both (all_letters bs) (name bs) (cond (has_digits (unsigned bs)) (number bs) (unknown bs)) (λ s. bytes_of s ≡ bs) (λ _. refl) (λ _. cond_both (has_digits (unsigned bs)) (number bs) (unknown bs) (λ s. bytes_of s ≡ bs) (λ _. refl) (λ _. refl))

all_show : (ps : List (List ℕ)) → map bytes_of (map spelling ps) ≡ ps
all_show [] = refl
all_show (p ∷ ps) = ap₂ ◌∷◌ (shows p) (all_show ps)

pub same_words : (ps qs : List (List ℕ)) → map spelling ps ≡ map spelling qs → ps ≡ qs
same_words ps qs e = sym (all_show ps) ∙ ap (map bytes_of) e ∙ all_show qs

-- a byte of a word
abbrev pub plain : ℕ → Bool
plain b = is_letter b || (is_digit b || eqb b 45)

abbrev pub Good : List ℕ → Type 0
Good w = (0 < length w) × AllByRecursion (λ b. plain b ≡ true) w

plain_known : (b : ℕ) → plain b ≡ true → is_known b ≡ true
plain_known b h =
    ⊎_elim (λ l. or_left (is_letter b) _ l)
    (λ r. or_right (is_letter b) _ (⊎_elim (λ d. or_left (is_digit b) _ d) (λ y. or_right (is_digit b) _ (or_left (eqb b 45) _ y)) (or_cases (is_digit b) (eqb b 45) r)))
    (or_cases (is_letter b) (is_digit b || eqb b 45) h)

plain_apart : (m b : ℕ) → m < 45 → plain b ≡ true → eqb b m ≡ false
plain_apart m b l h = ne_eqb b m (λ e. ⊎_elim (λ p. let q = leb-true 97 b (and_parts (leb 97 b) (leb b 122) p).0 in omega arith)
    (λ r. ⊎_elim (λ d. let q = leb-true 48 b (and_parts (leb 48 b) (leb b 57) d).0 in omega arith) (λ y. let q = eqb-true b 45 y in omega arith) (or_cases (is_digit b) (eqb b 45) r))
    (or_cases (is_letter b) (is_digit b || eqb b 45) h))

known_apart : (b : ℕ) → is_known b ≡ true → eqb b 10 ≡ false
known_apart b h = ne_eqb b 10 (λ e. ⊎_elim (λ p. let q = leb-true 97 b (and_parts (leb 97 b) (leb b 122) p).0 in omega arith)
    (λ r. ⊎_elim (λ d. let q = leb-true 48 b (and_parts (leb 48 b) (leb b 57) d).0 in omega arith)
    (λ y. ⊎_elim (λ a. let q = eqb-true b 45 a in omega arith) (λ a. let q = eqb-true b 32 a in omega arith) (or_cases (eqb b 45) (eqb b 32) y)) (or_cases (is_digit b) (eqb b 45 || eqb b 32) r))
    (or_cases (is_letter b) (is_digit b || (eqb b 45 || eqb b 32)) h))

abbrev pub Known : List ℕ → Type 0
Known = AllByRecursion (λ b. is_known b ≡ true)

known_marked : (ws : List (List ℕ)) → AllByRecursion Good ws → Known (marked 32 ws)
unfolding marked
known_marked [] g = tt
known_marked (w ∷ ws) g = (refl, All-append _ w (marked 32 ws) (All-weaker _ _ plain_known w g.0.1) (known_marked ws g.1))

pub known_line : (ws : List (List ℕ)) → AllByRecursion Good ws → Known (line_bytes ws)
known_line [] g = tt
known_line (w ∷ ws) g = subst Known (sym (line_join (w ∷ ws))) (All-append _ w (marked 32 ws) (All-weaker _ _ plain_known w g.0.1) (known_marked ws g.1))

pub free_line : (ws : List (List ℕ)) → AllByRecursion Good ws → Free 10 (line_bytes ws)
free_line ws g = All-weaker _ _ known_apart (line_bytes ws) (known_line ws g)

known_all : (l : List ℕ) → Known l → known_run l ≡ length l
unfolding known_run
known_all [] k = refl
known_all (b ∷ l) k = cond-true (is_known b) _ _ k.0 ∙ ap suc (known_all l k.1)

free_words : (ws : List (List ℕ)) → AllByRecursion Good ws → AllByRecursion (Free 32) ws
free_words ws g = All-weaker _ _ (λ w h. All-weaker _ _ (λ b p. plain_apart 32 b (omega arith) p) w h.1) ws g

pub split_line : (w : List ℕ) (ws : List (List ℕ)) → AllByRecursion Good (w ∷ ws) → split 32 (line_bytes (w ∷ ws)) ≡ w ∷ ws
split_line w ws g = ap (split 32) (line_join (w ∷ ws)) ∙ split_join 32 ws w (free_words (w ∷ ws) g).0 (free_words (w ∷ ws) g).1

spaces_ok : (ws : List (List ℕ)) (row c : ℕ) → AllByRecursion Good ws → spaces_check row c ws ≡ Ok tt
unfolding spaces_check
spaces_ok [] row c g = refl
spaces_ok (w ∷ ws) row c g = cond-false (eqb (length w) 0) _ _ (let l = g.0.0 in ne_eqb (length w) 0 (λ e. omega arith)) ∙ spaces_ok ws row (c + length w + 1) g.1

bytes_ok : (row : ℕ) (l : List ℕ) → Known l → bytes_check row l false ≡ Ok tt
bytes_ok row l k = cond-false (ltb (known_run l) (length l)) _ _ (let e = known_all l k in le-ltb (known_run l) (length l) (omega arith))

abbrev pub Says : Stage → Contents → List (List ℕ) → Turned → Type 0
Says st c ws t = Head (TurnWords st c) t (map spelling ws)

-- a line of good words that say something is read
pub line_complete : (row : ℕ) (st : Stage) (c : Contents) (w : List ℕ) (ws : List (List ℕ)) (t : Turned) → AllByRecursion Good (w ∷ ws) → Says st c (w ∷ ws) t → line_read row st c (line_bytes (w ∷ ws)) false ≡ Ok t
line_complete row st c w ws t g s =
    let l = line_bytes (w ∷ ws) in
    let parts : split 32 l ≡ w ∷ ws = split_line w ws g in
    let k = (ends_whole st c).complete (line_words row l) t (subst (Head (TurnWords st c) t) (sym (words_placed (split 32 l) row 1 ∙ ap (map spelling) parts)) s) in
    ap (λ r. passes r (λ _. passes (spaces_check row 1 (split 32 l)) (λ _. value_of (whole_turn st c (line_words row l))))) (bytes_ok row l (known_line (w ∷ ws) g))
    ∙ ap (λ r. passes r (λ _. value_of (whole_turn st c (line_words row l)))) (ap (spaces_check row 1) parts ∙ spaces_ok (w ∷ ws) row 1 g)
    ∙ ap value_of k.1

-- a line that is read says something, and is no last piece
pub line_sound : (row : ℕ) (st : Stage) (c : Contents) (l : List ℕ) (last : Bool) (t : Turned) → line_read row st c l last ≡ Ok t → (last ≡ false) × Says st c (split 32 l) t
line_sound row st c l last t h = first (last || ltb (known_run l) (length l)) refl h
  where
    third : (r : Result (Turned × Cursor) ReadFault) → whole_turn st c (line_words row l) ≡ r → value_of r ≡ Ok t → Says st c (split 32 l) t
    third (Ok p) e h = subst (Head (TurnWords st c) t) (words_placed (split 32 l) row 1) ((ends_whole st c).sound (line_words row l) t p.1 (e ∙ ap (λ x. Ok (x, p.1)) (value_is h)))
      where
        value_is : {x y : Turned} → ◌≡◌ {A = Result Turned ReadFault} (Ok x) (Ok y) → x ≡ y
        value_is h = cc
    third (Err f) e h = absurd (not_ok h)

    second : (r : Result (Unit {0}) ReadFault) → passes r (λ _. value_of (whole_turn st c (line_words row l))) ≡ Ok t → Says st c (split 32 l) t
    second (Ok u) h = third (whole_turn st c (line_words row l)) refl h
    second (Err f) h = absurd (not_ok h)

    first : (b : Bool) → (last || ltb (known_run l) (length l)) ≡ b → passes {X = Unit {0}} (cond b (Err (Byte (record { line = row; column = known_run l + 1 }))) (Ok tt)) (λ _. passes (spaces_check row 1 (split 32 l)) (λ _. value_of (whole_turn st c (line_words row l)))) ≡ Ok t → (last ≡ false) × Says st c (split 32 l) t
    first true e h = absurd (not_ok h)
    first false e h = ((or_parts last (ltb (known_run l) (length l)) e).0, second (spaces_check row 1 (split 32 l)) h)
