-- Playing gives the signals under the patch.
use Rattle.std.proofs.Common.{◌≡◌, ℕ, zero, suc, ◌+◌, ◌<◌, ◌≤◌, cond, eqb, ltb, ◌≢◌, List, [], ◌∷◌, ◌++◌, length, get_or, ℤ, pos, ◌+ℤ◌, ◌<ℤ◌, Some, None, fold, Option, sym, refl, ap, ◌∙◌, subst, ap₂, inl, inr, ⊎_elim, arith}
use Rattle.frames.specs.Samples.{silence}
use Rattle.frames.specs.declared.samples.Frame.{Frame}
use Rattle.playing.proofs.Follow.{Follows, follows_same, incoming, node_follows, one_more}
use Rattle.playing.proofs.Hearing.{heard_nothing}
use Rattle.playing.proofs.Slots.{slot_inside}
use Rattle.playing.specs.Tape.{on_tape, silent_tape, slot}
use Rattle.playing.specs.Theorems.{AtRest, InOrder, PlaysThePatch}
use Rattle.playing.specs.Work.{after_frames, Deck, frame_work, frames_out, node_work}
use Rattle.racks.specs.Rack.{RackLaws, unit}
use Rattle.reels.specs.Tracks.{Tracks}
use Rattle.session.specs.Plan.{KeepsRules, line, node, Plan}
use Rattle.signals.proofs.Inputs.{input_silent, SilentUntil}
use Rattle.signals.proofs.Lines.{all_lines}
use Rattle.signals.proofs.Listening.{made_makes, made_silent, makes_same}
use Rattle.signals.proofs.Order.{from_starts}
use Rattle.signals.proofs.Units.{unit_lawful}
use Rattle.signals.specs.Patches.{Ordered}
use Rattle.signals.specs.Signals.{Gives, input, Signal, SilentBefore, span, Under}
use Rattle.std.proofs.lemmas.List.{get_or-replicate, length-replicate}
use Rattle.std.proofs.lemmas.Int.{ints}
use Rattle.std.proofs.lemmas.Bool.{cases_eq, cases_lt, cond-false, cond-true, eq-eqb, le-ltb, lt-ltb, ne_eqb}
use Rattle.voices.specs.Meaning.{Meaning}

module _ (p : Plan) (rack : List (Meaning Frame)) (reel : Tracks) (order : List ℕ) (place delay : ℕ → ℕ) (x : ℕ → Signal Frame)
    (rules : KeepsRules p) (laws : RackLaws rack) (ordered : InOrder p order place)
    (short : (i : ℕ) → i < length p.lines → delay i ≤ 1023) (run : Under p rack reel delay x) where
  rising : Ordered p place
  rising = record { inside = λ v l. let s = (ordered.stands v l).0 in omega (arith, ordered.whole); before = ordered.before }

  -- before frame 0 a node that hears silence gives silence
  silent_node : (o : Option ℕ) (y : Signal Frame) → SilentUntil y 0 → (n : ℤ) (f : Frame) → Gives rack (λ _. 0) o y n f → n <ℤ pos 0 → f ≡ silence
  silent_node None y s n f g h = g ∙ s n h
  silent_node (Some u) y s n f g h =
      let law = unit_lawful rack laws u in
      let e : n +ℤ pos 0 ≡ n = omega (arith, ints) in
      makes_same silence (unit rack u) y (pos 0) s (n +ℤ pos 0) f _ g (made_makes silence (unit rack u) law y (pos 0) s (n +ℤ pos 0))
      ∙ made_silent silence (unit rack u) law y (pos 0) s (n +ℤ pos 0) (omega (arith, ints))

  -- under a patch nothing is heard before frame 0
  silent_before : (v : ℕ) → v < length p.nodes → SilentUntil (x v) 0
  silent_before = from_starts p place rules rising (λ v. SilentUntil (x v) 0) (λ v l starts n h.
      silent_node (node p v).unit (input p reel delay x v (node p v).source)
      (input_silent p reel delay x v 0 (all_lines p v (λ i. SilentUntil (x (line p i).start) 0) starts) (node p v).source)
      n (x v n) (run.follows v n l) h)

  quiet : (v : ℕ) → v < length p.nodes → SilentBefore silence (incoming p rack reel delay x v) (pos 0)
  quiet v l =
      input_silent p reel delay x v 0 (all_lines p v (λ i. SilentUntil (x (line p i).start) 0) (λ i b e. silent_before (line p i).start (rules.starts i b))) (node p v).source

  -- the nodes with a place below k have played frame n
  reached : ℕ → ℕ → ℕ → ℕ
  reached n k w = cond (ltb (place w) k) (suc n) n

  reached_yes : (n k w : ℕ) → place w < k → reached n k w ≡ suc n
  unfolding reached
  reached_yes n k w h = cond-true (ltb (place w) k) (suc n) n (lt-ltb (place w) k h)

  reached_not : (n k w : ℕ) → k ≤ place w → reached n k w ≡ n
  unfolding reached
  reached_not n k w h = cond-false (ltb (place w) k) (suc n) n (le-ltb (place w) k h)

  -- once node v at place k has played, those with a place below k + 1 have
  reached_next : (n k v w : ℕ) → w < length p.nodes → v ≡ get_or order k 0 → place v ≡ k → one_more (reached n k) v w ≡ reached n (k + 1) w
  reached_next n k v w l e q = elim (cases_eq w v) [ inl same ↦ own same | inr ne ↦ other ne ]
    where
      own : w ≡ v → one_more (reached n k) v w ≡ reached n (k + 1) w
      own same =
          let at : place w ≡ k = ap place same ∙ q in
          cond-true (eqb w v) (suc (reached n k w)) (reached n k w) (eq-eqb w v same) ∙ ap suc (reached_not n k w (omega arith)) ∙ sym (reached_yes n (k + 1) w (omega arith))

      apart : w ≢ v → place w ≢ k
      apart ne at = ne (sym (ordered.stands w l).1 ∙ ap (λ j. get_or order j 0) at ∙ sym e)

      other : w ≢ v → one_more (reached n k) v w ≡ reached n (k + 1) w
      other ne =
          let far : place w ≢ k = apart ne in
          cond-false (eqb w v) (suc (reached n k w)) (reached n k w) (ne_eqb w v ne)
          ∙ ⊎_elim (λ h. reached_yes n k w h ∙ sym (reached_yes n (k + 1) w (omega arith))) (λ h. reached_not n k w h ∙ sym (reached_not n (k + 1) w (omega arith))) (cases_lt (place w) k)

  -- the nodes of the order from place k on, one after the other
  along : (n : ℕ) (rest : List ℕ) (k : ℕ) (d : Deck) → k + length rest ≡ length order → ((j : ℕ) → j < length rest → get_or rest j 0 ≡ get_or order (k + j) 0)
      → Follows p rack reel delay x (reached n k) d → Follows p rack reel delay x (reached n (k + length rest)) (fold (node_work p delay reel n) d rest)
  along n [] k d e same f = subst (λ j. Follows p rack reel delay x (reached n j) d) (let z : k ≡ k + 0 = omega arith in z) f
  along n (v ∷ vs) k d e same f =
      let here : v ≡ get_or order k 0 = same 0 (omega arith) ∙ ap (λ j. get_or order j 0) (let z : k + 0 ≡ k = omega arith in z) in
      let inside : k < length order = omega arith in
      let own = ordered.once k inside in
      let at : place v ≡ k = ap place here ∙ own.1 in
      let l : v < length p.nodes = subst (λ w. w < length p.nodes) (sym here) own.0 in
      let next = node_follows p rack reel delay x rules short run quiet n v l (reached n k) (reached_not n k v (omega arith))
      (λ i b q. reached_yes n k (line p i).start (let before = ordered.before i b in let z : place (line p i).end ≡ k = ap place q ∙ at in omega arith)) d f in
      subst (λ j. Follows p rack reel delay x (reached n j) (fold (node_work p delay reel n) (node_work p delay reel n d v) vs)) (let z : k + 1 + length vs ≡ k + length (v ∷ vs) = omega arith in z)
      (along n vs (k + 1) (node_work p delay reel n d v) (omega arith)
      (λ j h. same (suc j) (omega arith) ∙ ap (λ i. get_or order i 0) (let z : k + suc j ≡ k + 1 + j = omega arith in z))
      (follows_same p rack reel delay x (one_more (reached n k) v) (reached n (k + 1)) (node_work p delay reel n d v) (λ w h. reached_next n k v w h here at) next))

  -- one frame
  pub frame_follows : (n : ℕ) (d : Deck) → Follows p rack reel delay x (λ _. n) d → Follows p rack reel delay x (λ _. suc n) (frame_work p order delay reel n d)
  frame_follows n d f =
      follows_same p rack reel delay x (reached n (0 + length order)) (λ _. suc n) (frame_work p order delay reel n d)
      (λ w h. reached_yes n (0 + length order) w (let s = (ordered.stands w h).0 in omega arith))
      (along n order 0 d (omega arith) (λ j h. ap (λ i. get_or order i 0) (let z : j ≡ 0 + j = omega arith in z))
      (follows_same p rack reel delay x (λ _. n) (reached n 0) d (λ w h. sym (reached_not n 0 w (omega arith))) f))

  -- node 0's frame, when it is played
  out : (n : ℕ) (d : Deck) → 0 < length p.nodes → Follows p rack reel delay x (λ _. suc n) d → on_tape d.tape 0 (pos n) ≡ x 0 (pos n)
  out n d some f = f.holds 0 (pos n) some (omega (arith, ints)) (omega (arith, ints))

  -- k frames from frame n on
  pub plays : (k n : ℕ) (d : Deck) → 0 < length p.nodes → Follows p rack reel delay x (λ _. n) d
      → (frames_out p order delay reel k n d ≡ span (x 0) (pos n) k) × Follows p rack reel delay x (λ _. n + k) (after_frames p order delay reel k n d)
  plays zero n d some f = (refl, subst (λ j. Follows p rack reel delay x (λ _. j) d) (let z : n ≡ n + 0 = omega arith in z) f)
  plays (suc k) n d some f =
      let next = frame_follows n d f in
      let e : suc n ≡ n + 1 = omega arith in
      let more = plays k (n + 1) (frame_work p order delay reel n d) some (subst (λ j. Follows p rack reel delay x (λ _. j) (frame_work p order delay reel n d)) e next) in
      let up : pos (n + 1) ≡ pos n +ℤ pos 1 = omega (arith, ints) in (
        ap₂ ◌∷◌ (out n (frame_work p order delay reel n d) some next) (more.0 ∙ ap (λ b. span (x 0) b k) up),
        subst (λ j. Follows p rack reel delay x (λ _. j) (after_frames p order delay reel (suc k) n d)) (let z : n + 1 + k ≡ n + suc k = omega arith in z) more.1,
      )

  -- a rack at rest with these voices and latenesses, with a silent tape, has played nothing
  pub at_first : (units : List (Meaning Frame)) → RackLaws units → AtRest units
      → ((s : ℕ) → (unit units s).voice ≡ (unit rack s).voice) → ((s : ℕ) → (unit units s).late ≡ (unit rack s).late)
      → Follows p rack reel delay x (λ _. 0) (record { units = units; tape = silent_tape })
  unfolding silent_tape
  at_first units lawful rested voices lates = record {
    long = length-replicate 16384 silence;
    holds = λ v m l a b. get_or-replicate 16384 (slot v m) silence silence (slot_inside v m (let few = rules.few_nodes in omega arith)) ∙ sym (silent_before v l m a);
    laws = lawful;
    voices = voices;
    lates = lates;
    heard = λ v s l e. heard_nothing (unit units s) (unit_lawful units lawful s) (rested s);
  }

-- a signal's values in two parts
pub span_append : (x : Signal Frame) (b : ℤ) (j k : ℕ) → span x b j ++ span x (b +ℤ pos j) k ≡ span x b (j + k)
span_append x b zero k = ap₂ (λ c n. span x c n) (let z : b +ℤ pos 0 ≡ b = omega (arith, ints) in z) (let z : k ≡ 0 + k = omega arith in z)
span_append x b (suc j) k =
    let e : b +ℤ pos (suc j) ≡ b +ℤ pos 1 +ℤ pos j = omega (arith, ints) in
    let f : suc j + k ≡ suc (j + k) = omega arith in
    ap (λ c. x b ∷ (span x (b +ℤ pos 1) j ++ span x c k)) e ∙ ap (λ l. x b ∷ l) (span_append x (b +ℤ pos 1) j k) ∙ ap (span x b) (sym f)

pub plays_the_patch : PlaysThePatch
plays_the_patch p units reel order place delay x rules laws rested ordered some short run j k =
    let d : Deck = record { units = units; tape = silent_tape } in
    let first = plays p units reel order place delay x rules laws ordered short run j 0 d some
    (at_first p units reel order place delay x rules laws ordered short run units laws rested (λ s. refl) (λ s. refl)) in
    let e : 0 + j ≡ j = omega arith in
    let second = plays p units reel order place delay x rules laws ordered short run k j (after_frames p order delay reel j 0 d) some
    (subst (λ i. Follows p units reel delay x (λ _. i) (after_frames p order delay reel j 0 d)) e first.1) in
    ap₂ ◌++◌ first.0 (second.0 ∙ ap (λ b. span (x 0) b k) (let z : pos j ≡ pos 0 +ℤ pos j = omega (arith, ints) in z)) ∙ span_append (x 0) (pos 0) j k
