-- The file of some frames, in a part of a buffer, read again.
use Rattle.std.proofs.Common.{◌≡◌, ℕ, suc, ◌+◌, ◌-◌, ◌*◌, ◌/◌, ◌%◌, ◌<◌, ◌≤◌, true, eqb, ltb, ◌⊎◌, List, [], ◌∷◌, ◌++◌, length, get_or, drop, replicate, ℤ, pos, negsuc, Some, None, unwrap_or, sym, refl, ap, ◌∙◌, subst, ap₂, inl, inr, ⊎_elim, arith}
use Rattle.frames.specs.Samples.{silence, word}
use Rattle.frames.specs.declared.samples.Frame.{Frame}
use Rattle.session.specs.Held.{Held}
use Rattle.std.proofs.lemmas.List.{append_assoc, get_or_append_left, get_or-append_right, get_or-drop, get_or_past, get_or-replicate, get_or-set_other, get_or-set_same, length-append, length-drop, length-set, length-take-le, take_all, take-append-drop}
use Rattle.std.proofs.lemmas.List.Concat.{get_or-flat_map}
use Rattle.std.proofs.lemmas.Int.{ints}
use Rattle.std.proofs.lemmas.Bool.{and_from, cases_eq, cases_lt, cond-false, cond-true, eq-eqb, le-leb, le-ltb, lt-ltb, ne_eqb}
use Rattle.wave.proofs.Rows.{front_length, frames_bytes_length, head_length}
use Rattle.wave.specs.Back.{AllFrames, FilesReadBack, HoldsFile, IsSample, ReadBack, RoundTrip, alone}
use Rattle.wave.specs.Bytes.{file_bytes, frame_bytes, frames_bytes, head_bytes}
use Rattle.wave.specs.Due.{or_else}
use Rattle.wave.specs.Judged.{first_other, head_fault, part_fault, parts_fault}
use Rattle.wave.specs.Parts.{frame_at, frames_in, inside, is_file_length, part_frame, part_frames, sample_of, signed}
use Rattle.wave.specs.Reel.{part_of}
use Rattle.wave.specs.declared.parts.TrackPart.{TrackPart}

-- a sample's two bytes
word_joined : (w : ℕ) → w < 65536 → w % 256 + 256 * (w / 256 % 256) ≡ w
word_joined w h = omega arith

signed_word : (z : ℤ) → IsSample z → signed (word z) ≡ z
signed_word (pos n) h = cond-true (ltb n 32768) _ _ (lt-ltb n 32768 (omega (arith, ints)))
signed_word (negsuc n) h =
    let few : n ≤ 32767 = omega (arith, ints) in
    cond-false (ltb (65536 - suc n) 32768) _ _ (le-ltb (65536 - suc n) 32768 (omega arith)) ∙ ap negsuc (omega arith)

word_small : (z : ℤ) → IsSample z → word z < 65536
word_small (pos n) h = omega (arith, ints)
word_small (negsuc n) h = omega arith

sample_back : (z : ℤ) → IsSample z → sample_of (word z % 256) (word z / 256 % 256) ≡ z
sample_back z h = ap signed (word_joined (word z) (word_small z h)) ∙ signed_word z h

-- a frame's four bytes
frames_byte : (fs : List Frame) (i j : ℕ) → i < length fs → j < 4 → get_or (frames_bytes fs) (4 * i + j) 0 ≡ get_or (frame_bytes (get_or fs i silence)) j 0
frames_byte fs i j h g = ap (λ n. get_or (frames_bytes fs) (n + j) 0) (sym (front_length fs i (omega arith))) ∙ get_or-flat_map frame_bytes fs i j silence 0 h g

-- a head is its own
pub same_bytes : (k : ℕ) (xs ys : List ℕ) → first_other k xs (xs ++ ys) ≡ None
same_bytes k [] ys = refl
same_bytes k (x ∷ xs) ys = cond-true (eqb x x) _ _ (eq-eqb x x refl) ∙ same_bytes (k + 1) xs ys

module _ (rate : ℕ) (bytes : List ℕ) (p : TrackPart) (fs : List Frame) (h : HoldsFile rate bytes p fs) where
  part_length : p.length ≡ 44 + 4 * length fs
  part_length =
      let front = length-take-le p.length (drop p.start bytes) (let d = length-drop p.start bytes in let g = h.ends in omega arith) in
      let file = length-append (head_bytes (length fs) rate) (frames_bytes fs) in
      let head = head_length (length fs) rate in
      let body = frames_bytes_length fs in
      let e = ap length h.file in
      omega arith

  part_counts : frames_in p.length ≡ length fs
  part_counts = let e = part_length in omega arith

  part_inside : inside (length bytes) p ≡ true
  part_inside = le-leb (p.start + p.length) (length bytes) h.ends

  part_is_file : is_file_length p.length ≡ true
  part_is_file =
      let e = part_length in
      let n = part_counts in
      let few = h.few in
      and_from _ _ (eq-eqb p.length (44 + 4 * frames_in p.length) (omega arith)) (le-leb (frames_in p.length) 1048576 (omega arith))

  -- what stands from the part's start on
  abbrev rest : List ℕ
  rest = drop p.length (drop p.start bytes)

  part_begins : drop p.start bytes ≡ head_bytes (length fs) rate ++ (frames_bytes fs ++ rest)
  part_begins =
      sym (take-append-drop p.length (drop p.start bytes)) ∙ ap (λ x. x ++ rest) h.file
      ∙ append_assoc (head_bytes (length fs) rate) (frames_bytes fs) rest

  pub no_part_fault : (track : ℕ) → part_fault rate bytes track p ≡ None
  no_part_fault track =
      let e = part_length in
      cond-false (eqb p.length 0) _ _ (ne_eqb p.length 0 (λ z. omega arith))
      ∙ cond-true (inside (length bytes) p) _ _ part_inside
      ∙ cond-true (is_file_length p.length) _ _ part_is_file
      ∙ ap₂ (λ n held. head_fault track (first_other 0 (head_bytes n rate) held)) part_counts part_begins
      ∙ ap (head_fault track) (same_bytes 0 (head_bytes (length fs) rate) (frames_bytes fs ++ rest))

  pub frames_back : part_frames bytes p ≡ length fs
  frames_back =
      cond-true (inside (length bytes) p) _ _ part_inside
      ∙ ap (λ o. unwrap_or o 0) (cond-true (is_file_length p.length) (Some (frames_in p.length)) None part_is_file) ∙ part_counts

  part_byte : (i j place : ℕ) → i < length fs → j < 4 → place ≡ p.start + (44 + (4 * i + j)) → get_or bytes place 0 ≡ get_or (frame_bytes (get_or fs i silence)) j 0
  part_byte i j place g k e =
      let head = head_bytes (length fs) rate in
      let at = 44 + (4 * i + j) in
      let body = frames_bytes_length fs in
      let m : at - 44 ≡ 4 * i + j = omega arith in
      ap (λ n. get_or bytes n 0) e ∙ sym (get_or-drop p.start bytes at 0) ∙ ap (λ l. get_or l at 0) part_begins
      ∙ get_or-append_right head (frames_bytes fs ++ rest) 44 at 0 (head_length (length fs) rate) (omega arith)
      ∙ ap (λ n. get_or (frames_bytes fs ++ rest) n 0) m ∙ get_or_append_left (frames_bytes fs) rest 0 (4 * i + j) (omega arith) ∙ frames_byte fs i j g k

  part_frame_back : (i : ℕ) → i < length fs → frame_at bytes (p.start + 44 + 4 * i) ≡ get_or fs i silence
  part_frame_back i g =
      let f = get_or fs i silence in
      let s = h.samples i g in
      let a = part_byte i 0 (p.start + 44 + 4 * i) g (omega arith) (omega arith) in
      let b = part_byte i 1 (p.start + 44 + 4 * i + 1) g (omega arith) (omega arith) in
      let c = part_byte i 2 (p.start + 44 + 4 * i + 2) g (omega arith) (omega arith) in
      let d = part_byte i 3 (p.start + 44 + 4 * i + 3) g (omega arith) (omega arith) in
      ap₂ (λ x y. record { left = x; right = y }) (ap₂ sample_of a b ∙ sample_back f.left s.0) (ap₂ sample_of c d ∙ sample_back f.right s.1)

  pub frame_back : (i : ℕ) → part_frame bytes p i ≡ get_or fs i silence
  frame_back i =
      ⊎_elim
      (λ g. cond-true (ltb i (part_frames bytes p)) _ _ (lt-ltb i (part_frames bytes p) (let n = frames_back in omega arith)) ∙ part_frame_back i g)
      (λ g. cond-false (ltb i (part_frames bytes p)) _ _ (le-ltb i (part_frames bytes p) (let n = frames_back in omega arith)) ∙ sym (get_or_past fs i silence g))
      (cases_lt i (length fs))

-- no part has a fault
pub no_faults : (rate : ℕ) (bytes : List ℕ) (k : ℕ) (parts : List TrackPart)
    → ((i : ℕ) → i < length parts → (track : ℕ) → part_fault rate bytes track (part_of parts i) ≡ None)
    → parts_fault rate bytes k parts ≡ None
no_faults rate bytes k [] h = refl
no_faults rate bytes k (p ∷ parts) h =
    ap (λ o. or_else o (parts_fault rate bytes (k + 1) parts)) (h 0 (omega arith) k)
    ∙ no_faults rate bytes (k + 1) parts (λ i g. h (suc i) (omega arith))

pub files_read_back : FilesReadBack
unfolding FilesReadBack
files_read_back s bytes parts some each = (
  cond-false (eqb (length s.plan.nodes) 0) _ _ (ne_eqb (length s.plan.nodes) 0 (λ z. omega arith)) ∙ no_faults s.rate bytes 0 parts (λ i g track. fine i track (each i g)),
  λ track fs g held. (
    cond-true (ltb track 8) _ _ (lt-ltb track 8 g) ∙ frames_back s.rate bytes (part_of parts track) fs held,
    λ i. cond-true (ltb track 8) _ _ (lt-ltb track 8 g) ∙ frame_back s.rate bytes (part_of parts track) fs held i,
  ),
)
  where
    fine : (i track : ℕ) → ((part_of parts i).length ≡ 0) ⊎ ((fs : List Frame) × HoldsFile s.rate bytes (part_of parts i) fs)
        → part_fault s.rate bytes track (part_of parts i) ≡ None
    fine i track (inl e) = cond-true (eqb (part_of parts i).length 0) _ _ (eq-eqb (part_of parts i).length 0 e)
    fine i track (inr held) = no_part_fault s.rate bytes (part_of parts i) held.0 held.1 track

-- one part among empty ones
module _ (track size : ℕ) (g : track < 8) where
  abbrev none : TrackPart
  none = record { start = 0; length = 0 }

  alone_here : part_of (alone track size) track ≡ record { start = 0; length = size }
  alone_here = get_or-set_same (replicate 8 none) track (record { start = 0; length = size }) none g

  alone_other : (u : ℕ) → u < length (alone track size) → (u ≡ track → ⊥) → (part_of (alone track size) u).length ≡ 0
  alone_other u h n =
      let eight = length-set (replicate 8 none) track (record { start = 0; length = size }) in
      ap (λ (p : TrackPart). p.length) (get_or-set_other (replicate 8 none) track u (record { start = 0; length = size }) none n ∙ get_or-replicate 8 u none none (omega arith))

pub round_trip : RoundTrip
unfolding FilesReadBack ReadBack RoundTrip
round_trip s fs some few samples track g =
    let bytes = file_bytes s.rate fs in
    let size = length bytes in
    let held : HoldsFile s.rate bytes (record { start = 0; length = size }) fs = record { few = few; samples = samples; ends = omega arith; file = take_all size bytes (omega arith) } in
    let at : (u : ℕ) → u ≡ track → HoldsFile s.rate bytes (part_of (alone track size) u) fs =
    λ u e. subst (λ p. HoldsFile s.rate bytes p fs) (sym (ap (part_of (alone track size)) e ∙ alone_here track size g)) held in
    let all = files_read_back s bytes (alone track size) some (λ u h. ⊎_elim (λ e. inr (fs, at u e)) (λ n. inl (alone_other track size g u h n)) (cases_eq u track)) in
    (all.0, all.1 track fs g (at track refl))

-- what a buffer that now holds the file is read as
pub file_read_back : (s : Held) (fs : List Frame) (bytes : List ℕ) → 0 < length s.plan.nodes → length fs ≤ 1048576 → AllFrames fs
    → bytes ≡ file_bytes s.rate fs → ReadBack s bytes fs
unfolding RoundTrip
file_read_back s fs bytes some few samples e = subst (λ b. ReadBack s b fs) (sym e) (round_trip s fs some few samples)
