-- What the steps of a form accept, as rules over the words that are left.
use Rattle.std.proofs.Common.{◌≡◌, ℕ, Bool, true, false, cond, List, [], ◌∷◌, map, Some, None, Ok, Err, MatchBool, Option, Result, sym, refl, ap, ◌∙◌, subst, subst₂, arith}
use Rattle.std.proofs.lemmas.Option.{none-some, same_Some}
use Rattle.std.proofs.lemmas.Bool.{false≢true}
use Rattle.words.specs.Parsing.{Parse, ◌>>=◌, ◌>>◌, ask, asked, first_word, give, no_more, nothing_left, refuse, then, word}
use Rattle.words.specs.Words.{Cursor, Item, Spelling}
use Rattle.words.specs.declared.faults.Place.{Place}
use Rattle.words.specs.declared.faults.ReadFault.{ReadFault}

abbrev pub words_in : List Item → List Spelling
words_in = map (λ (i : Item). i.word)

-- a step that reads to the end of the line accepts just these words
pub record Ends {X : Type 0} (p : Parse X) (L : X → List Spelling → Type 0) : Type 0 where
  pub sound : (k : Cursor) (x : X) (k' : Cursor) → p k ≡ Ok (x, k') → L x (words_in k.items)
  pub complete : (k : Cursor) (x : X) → L x (words_in k.items) → (k' : Cursor) × (p k ≡ Ok (x, k'))

pub not_ok : {X : Type 0} {e : ReadFault} {x : X} → ◌≡◌ {A = Result X ReadFault} (Err e) (Ok x) → ⊥
not_ok h = let z : ◌≡◌ {A = ℕ} 0 1 = cc in omega arith

-- the first of some words, and those after it
abbrev pub Head : {Y : Type 0} → (Spelling → Y → List Spelling → Type 0) → Y → List Spelling → Type 0
Head M y ws = (w : Spelling) × (vs : List Spelling) × (ws ≡ w ∷ vs) × M w y vs

pub nil_not : {X : Type 0} {x : X} {xs : List X} → [] ≡ x ∷ xs → ⊥
nil_not h = let z : ◌≡◌ {A = ℕ} 0 1 = cc in omega arith

pub head_is : {X : Type 0} {x y : X} {xs ys : List X} → x ∷ xs ≡ y ∷ ys → x ≡ y
head_is h = cc

pub tail_is : {X : Type 0} {x y : X} {xs ys : List X} → x ∷ xs ≡ y ∷ ys → xs ≡ ys
tail_is h = cc

pub ends_word : {Y : Type 0} (G : Item → Parse Y) (M : Spelling → Y → List Spelling → Type 0) → ((w : Item) → Ends (G w) (M w.word)) → Ends (word >>= G) (Head M)
ends_word {Y} G M each = record { sound = λ k x k' h. sound k.after k.items x k' h; complete = λ k x h. complete k.after k.items x h }
  where
    sound : (a : Place) (is : List Item) (x : Y) (k' : Cursor) → then (first_word a is) G ≡ Ok (x, k') → Head M x (words_in is)
    sound a [] x k' h = absurd (not_ok h)
    sound a (w ∷ ws) x k' h = (w.word, words_in ws, refl, (each w).sound (record { after = a; items = ws }) x k' h)

    complete : (a : Place) (is : List Item) (x : Y) → Head M x (words_in is) → (k' : Cursor) × (then (first_word a is) G ≡ Ok (x, k'))
    complete a [] x h = absurd (nil_not h.2)
    complete a (w ∷ ws) x h =
        (each w).complete (record { after = a; items = ws }) x (subst₂ (λ v vs. M v x vs) (sym (head_is h.2)) (sym (tail_is h.2)) h.3)

-- the same words, said otherwise
pub ends_to : {Y : Type 0} {p : Parse Y} {L : Y → List Spelling → Type 0} (M : Y → List Spelling → Type 0) → Ends p L → ((y : Y) (ws : List Spelling) → L y ws → M y ws) → ((y : Y) (ws : List Spelling) → M y ws → L y ws) → Ends p M
ends_to M r to from = record { sound = λ k x k' h. to x _ (r.sound k x k' h); complete = λ k x h. r.complete k x (from x _ h) }

pub ends_ask : {Y : Type 0} (b : Bool) (e : ReadFault) (p : Parse Y) (L : Y → List Spelling → Type 0) → Ends p L → Ends (ask b e >> p) (λ y ws. (b ≡ true) × L y ws)
ends_ask {Y} true e p L r = record { sound = λ k x k' h. (refl, r.sound k x k' h); complete = λ k x h. r.complete k x h.1 }
ends_ask {Y} false e p L r = record { sound = λ k x k' h. absurd (not_ok h); complete = λ k x h. absurd (false≢true h.0) }

pub ends_asked : {X Y : Type 0} (o : Option X) (e : ReadFault) (f : X → Parse Y) (M : X → Y → List Spelling → Type 0) → ((x : X) → Ends (f x) (M x))
    → Ends (asked o e >>= f) (λ y ws. (x : X) × (o ≡ Some x) × M x y ws)
ends_asked None e f M each = record { sound = λ k y k' h. absurd (not_ok h); complete = λ k y h. absurd (none-some _ h.1) }
ends_asked (Some x) e f M each = record {
  sound = λ k y k' h. (x, refl, (each x).sound k y k' h);
  complete = λ k y h. (each x).complete k y (subst (λ z. M z y (words_in k.items)) (sym (same_Some _ _ h.1)) h.2);
}

-- the same step, written otherwise
pub ends_same : {Y : Type 0} (p q : Parse Y) (L : Y → List Spelling → Type 0) → ((k : Cursor) → q k ≡ p k) → Ends p L → Ends q L
ends_same p q L e r = record {
  sound = λ k x k' h. r.sound k x k' (sym (e k) ∙ h);
  complete = λ k x h. let c = r.complete k x h in (c.0, e k ∙ c.1);
}

pub then_then : {X Y Z : Type 0} (r : Result (X × Cursor) ReadFault) (f : X → Parse Y) (g : Y → Parse Z) → then (then r f) g ≡ then r (λ x. f x >>= g)
then_then (Ok p) f g = refl
then_then (Err e) f g = refl

pub ends_assoc : {X Y Z : Type 0} (p : Parse X) (f : X → Parse Y) (g : Y → Parse Z) (L : Z → List Spelling → Type 0) → Ends (p >>= (λ x. f x >>= g)) L → Ends ((p >>= f) >>= g) L
ends_assoc p f g L = ends_same (p >>= (λ x. f x >>= g)) ((p >>= f) >>= g) L (λ k. then_then (p k) f g)

-- nothing is left
abbrev pub Done : {Y : Type 0} → Y → Y → List Spelling → Type 0
Done y₀ y ws = (y ≡ y₀) × (ws ≡ [])

pub ok_is : {Y : Type 0} {x y : Y} {k k' : Cursor} → ◌≡◌ {A = Result (Y × Cursor) ReadFault} (Ok (x, k)) (Ok (y, k')) → x ≡ y
ok_is {Y} {x} e = ap (λ r. elim r as (λ _. Y) [ Ok p ↦ p.0 | Err f ↦ x ]) e

pub ends_done : {Y : Type 0} (y₀ : Y) → Ends (no_more >> give y₀) (Done y₀)
ends_done {Y} y₀ = record { sound = λ k x k' h. sound k k.items x k' h; complete = λ k x h. complete k k.items x h }
  where
    sound : (k : Cursor) (is : List Item) (x : Y) (k' : Cursor) → then (nothing_left k is) (λ _. give y₀) ≡ Ok (x, k') → Done y₀ x (words_in is)
    sound k [] x k' h = (sym (ok_is h), refl)
    sound k (w ∷ ws) x k' h = absurd (not_ok h)

    complete : (k : Cursor) (is : List Item) (x : Y) → Done y₀ x (words_in is) → (k' : Cursor) × (then (nothing_left k is) (λ _. give y₀) ≡ Ok (x, k'))
    complete k [] x h = (k, ap (λ y. Ok (y, k)) (sym h.0))
    complete k (w ∷ ws) x h = absurd (nil_not (sym h.1))

pub ends_map : {X Y : Type 0} (p : Parse X) (g : X → Y) (L : X → List Spelling → Type 0) → Ends p L → Ends (p >>= (λ x. give (g x))) (λ y ws. (x : X) × (y ≡ g x) × L x ws)
ends_map {X} {Y} p g L r = record { sound = λ k y k' h. sound k (p k) refl y k' h; complete = λ k y h. let c = r.complete k h.0 h.2 in (c.0, ap (λ q. then q (λ x. give (g x))) c.1 ∙ ap (λ z. Ok (z, c.0)) (sym h.1)) }
  where
    sound : (k : Cursor) (q : Result (X × Cursor) ReadFault) → p k ≡ q → (y : Y) (k' : Cursor) → then q (λ x. give (g x)) ≡ Ok (y, k') → (x : X) × (y ≡ g x) × L x (words_in k.items)
    sound k (Ok z) e y k' h = (z.0, sym (ok_is h), r.sound k z.0 z.1 e)
    sound k (Err f) e y k' h = absurd (not_ok h)

pub ends_none : {Y : Type 0} (e : ReadFault) → Ends {X = Y} (refuse e) (λ y ws. ⊥)
ends_none e = record { sound = λ k x k' h. not_ok h; complete = λ k x h. absurd h }

-- a test between two ways
pub ends_cond : {Y : Type 0} (b : Bool) (p q : Parse Y) (L M : Y → List Spelling → Type 0) → Ends p L → Ends q M → Ends (cond b p q) (λ y ws. MatchBool b (L y ws) (M y ws))
ends_cond true p q L M r s = record { sound = r.sound; complete = r.complete }
ends_cond false p q L M r s = record { sound = s.sound; complete = s.complete }

pub ends_cond_bind : {X Y : Type 0} (b : Bool) (p q : Parse X) (f : X → Parse Y) (L M : Y → List Spelling → Type 0) → Ends (p >>= f) L → Ends (q >>= f) M → Ends (cond b p q >>= f) (λ y ws. MatchBool b (L y ws) (M y ws))
ends_cond_bind true p q f L M r s = record { sound = r.sound; complete = r.complete }
ends_cond_bind false p q f L M r s = record { sound = s.sound; complete = s.complete }
