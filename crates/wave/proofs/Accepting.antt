-- What is accepted, and the place of the first other byte.
use Rattle.std.proofs.Common.{◌≡◌, ℕ, zero, suc, ◌+◌, ◌*◌, ◌<◌, Bool, true, false, cond, eqb, leb, ◌⊎◌, List, [], ◌∷◌, ◌++◌, length, get_or, take, drop, Some, None, Option, sym, refl, ap, ◌∙◌, subst, ap₂, inl, inr, ⊎_elim, arith}
use Rattle.std.proofs.lemmas.List.{take-append-drop}
use Rattle.std.proofs.lemmas.Option.{none-some}
use Rattle.std.proofs.lemmas.Bool.{and_from, and_parts, cases_Bool, cond-false, cond-true, eq-eqb, eqb-false, eqb-true, le-leb, leb-true, ne_eqb}
use Rattle.wave.proofs.Reading.{no_faults, same_bytes}
use Rattle.wave.proofs.Rows.{head_length}
use Rattle.wave.specs.Accepted.{AcceptedExactly, AllTaken, FirstIsFirst, Taken}
use Rattle.wave.specs.Bytes.{head_bytes}
use Rattle.wave.specs.Due.{or_else}
use Rattle.wave.specs.Judged.{first_other, head_fault, part_fault, parts_fault}
use Rattle.wave.specs.Parts.{frames_in, inside, is_file_length}
use Rattle.wave.specs.Reel.{part_of}
use Rattle.wave.specs.declared.parts.TrackPart.{TrackPart}
use Rattle.wave.specs.declared.reader.WaveFault.{WaveFault}
use Rattle.wave.specs.declared.reader.WaveFault.TheVariants.{NoNode, Outside, Length, Head}

-- a check of which no fault came
passed : {A : Type 0} (b : Bool) (later : Option A) (fault : A) → cond b later (Some fault) ≡ None → (b ≡ true) × (later ≡ None)
passed true later fault h = (refl, h)
passed false later fault h = absurd (none-some fault (sym h))

spared : {A : Type 0} (b : Bool) (fault : A) (later : Option A) → cond b (Some fault) later ≡ None → (b ≡ false) × (later ≡ None)
spared true fault later h = absurd (none-some fault (sym h))
spared false fault later h = (refl, h)

-- no other byte
same_head : (k : ℕ) (xs ys : List ℕ) → first_other k xs ys ≡ None → take (length xs) ys ≡ xs
same_head k [] ys h = refl
same_head k (x ∷ xs) [] h = absurd (none-some k (sym h))
same_head k (x ∷ xs) (y ∷ ys) h =
    let p = passed (eqb y x) (first_other (k + 1) xs ys) k h in
    ap₂ ◌∷◌ (eqb-true y x p.0) (same_head (k + 1) xs ys p.1)

-- the first other byte, counted from j
OtherAt : ℕ → List ℕ → List ℕ → Type 0
OtherAt k xs ys = (k < length xs) × (take k ys ≡ take k xs) × (k < length ys → get_or ys k 0 ≡ get_or xs k 0 → ⊥)

other_next : (x y : ℕ) (xs ys : List ℕ) (k : ℕ) → y ≡ x → OtherAt k xs ys → OtherAt (suc k) (x ∷ xs) (y ∷ ys)
unfolding OtherAt
other_next x y xs ys k e o = let l = o.0 in (omega arith, ap₂ ◌∷◌ e o.1, λ g n. o.2 (omega arith) n)

other_here : (x y : ℕ) (xs ys : List ℕ) → eqb y x ≡ false → OtherAt 0 (x ∷ xs) (y ∷ ys)
unfolding OtherAt
other_here x y xs ys e = (omega arith, refl, λ g n. eqb-false y x e n)

other_place : (j : ℕ) (xs ys : List ℕ) (k : ℕ) → first_other j xs ys ≡ Some k → (m : ℕ) × (k ≡ j + m) × OtherAt m xs ys
unfolding OtherAt
other_place j [] ys k h = absurd (none-some k h)
other_place j (x ∷ xs) [] k h = let e : k ≡ j = cc in (0, omega arith, (omega arith, refl, λ g n. omega arith))
other_place j (x ∷ xs) (y ∷ ys) k h =
    ⊎_elim
    (λ e. let o = other_place (j + 1) xs ys k (sym (cond-true (eqb y x) (first_other (j + 1) xs ys) (Some j) e) ∙ h) in (suc o.0, (let n = o.1 in omega arith), other_next x y xs ys o.0 (eqb-true y x e) o.2))
    (λ e. let i : Some j ≡ Some k = sym (cond-false (eqb y x) (first_other (j + 1) xs ys) (Some j) e) ∙ h in let n : k ≡ j = cc in (0, omega arith, other_here x y xs ys e))
    (cases_Bool (eqb y x))

pub first_is_first : FirstIsFirst
unfolding FirstIsFirst OtherAt
first_is_first xs ys k h =
    let o = other_place 0 xs ys k h in
    let e : o.0 ≡ k = let n = o.1 in omega arith in
    subst (λ m. OtherAt m xs ys) e o.2

-- a part without a fault
no_head_fault : (track : ℕ) (o : Option ℕ) → head_fault track o ≡ None → o ≡ None
no_head_fault track None h = refl
no_head_fault track (Some k) h = absurd (none-some (Head track k) (sym h))

module _ (rate : ℕ) (bytes : List ℕ) (track : ℕ) (p : TrackPart) where
  abbrev held : List ℕ
  held = drop p.start bytes

  abbrev head : List ℕ
  head = head_bytes (frames_in p.length) rate

  abbrev by_head : Option WaveFault
  by_head = head_fault track (first_other 0 head held)

  abbrev by_length : Option WaveFault
  by_length = cond (is_file_length p.length) by_head (Some (Length track))

  abbrev by_place : Option WaveFault
  by_place = cond (inside (length bytes) p) by_length (Some (Outside track))

  taken_head : inside (length bytes) p ≡ true → is_file_length p.length ≡ true → by_head ≡ None → Taken rate bytes p
  taken_head i f h =
      let e = and_parts (eqb p.length (44 + 4 * frames_in p.length)) (leb (frames_in p.length) 1048576) f in
      record {
        ends = leb-true (p.start + p.length) (length bytes) i;
        frames = frames_in p.length;
        few = leb-true (frames_in p.length) 1048576 e.1;
        long = eqb-true p.length (44 + 4 * frames_in p.length) e.0;
        head = ap (λ n. take n held) (sym (head_length (frames_in p.length) rate)) ∙ same_head 0 head held (no_head_fault track (first_other 0 head held) h);
      }

  taken_length : inside (length bytes) p ≡ true → by_length ≡ None → Taken rate bytes p
  taken_length i h = let f = passed (is_file_length p.length) by_head (Length track) h in taken_head i f.0 f.1

  taken_place : by_place ≡ None → Taken rate bytes p
  taken_place h = let i = passed (inside (length bytes) p) by_length (Outside track) h in taken_length i.0 i.1

  taken_by : part_fault rate bytes track p ≡ None → (p.length ≡ 0) ⊎ Taken rate bytes p
  taken_by h =
      ⊎_elim
      (λ e. inl (eqb-true p.length 0 e))
      (λ e. inr (taken_place (sym (cond-false (eqb p.length 0) None by_place e) ∙ h)))
      (cases_Bool (eqb p.length 0))

  taken_fine : (p.length ≡ 0) ⊎ Taken rate bytes p → part_fault rate bytes track p ≡ None
  taken_fine (inl e) = cond-true (eqb p.length 0) None by_place (eq-eqb p.length 0 e)
  taken_fine (inr t) =
      let long = t.long in
      let few = t.few in
      let n : frames_in p.length ≡ t.frames = omega arith in
      let file : is_file_length p.length ≡ true = and_from _ _ (eq-eqb p.length (44 + 4 * frames_in p.length) (omega arith)) (le-leb (frames_in p.length) 1048576 (omega arith)) in
      cond-false (eqb p.length 0) None by_place (ne_eqb p.length 0 (λ z. omega arith))
      ∙ cond-true (inside (length bytes) p) by_length (Some (Outside track)) (le-leb (p.start + p.length) (length bytes) t.ends)
      ∙ cond-true (is_file_length p.length) by_head (Some (Length track)) file
      ∙ ap₂ (λ k l. head_fault track (first_other 0 (head_bytes k rate) l)) n (sym (take-append-drop 44 held) ∙ ap (λ l. l ++ drop 44 held) t.head)
      ∙ ap (head_fault track) (same_bytes 0 (head_bytes t.frames rate) (drop 44 held))

-- each part has no fault
or_none : (o later : Option WaveFault) → or_else o later ≡ None → (o ≡ None) × (later ≡ None)
or_none None later h = (refl, h)
or_none (Some x) later h = absurd (none-some x (sym h))

none_each : (rate : ℕ) (bytes : List ℕ) (k : ℕ) (parts : List TrackPart) → parts_fault rate bytes k parts ≡ None → AllTaken rate bytes parts
none_each rate bytes k [] h i g = absurd (omega arith)
none_each rate bytes k (p ∷ parts) h zero g = taken_by rate bytes k p (or_none (part_fault rate bytes k p) (parts_fault rate bytes (k + 1) parts) h).0
none_each rate bytes k (p ∷ parts) h (suc i) g =
    none_each rate bytes (k + 1) parts (or_none (part_fault rate bytes k p) (parts_fault rate bytes (k + 1) parts) h).1 i (omega arith)

pub accepted_exactly : AcceptedExactly
unfolding AcceptedExactly
accepted_exactly s bytes parts = (
  λ h. let p = spared (eqb (length s.plan.nodes) 0) NoNode (parts_fault s.rate bytes 0 parts) h in
      (let n = eqb-false (length s.plan.nodes) 0 p.0 in omega arith, none_each s.rate bytes 0 parts p.1),
  λ some each. cond-false (eqb (length s.plan.nodes) 0) _ _ (ne_eqb (length s.plan.nodes) 0 (λ z. omega arith))
      ∙ no_faults s.rate bytes 0 parts (λ i g track. taken_fine s.rate bytes track (part_of parts i) (each i g)),
)
