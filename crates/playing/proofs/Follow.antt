-- Rack and tape follow the signals under a patch, node by node and frame by frame.
use Rattle.std.proofs.Common.{◌≡◌, ℕ, zero, suc, ◌<◌, ◌≤◌, cond, eqb, ◌≢◌, List, [], ◌∷◌, ◌++◌, length, set, ℤ, pos, ◌+ℤ◌, ◌-ℤ◌, ◌≤ℤ◌, ◌<ℤ◌, Some, None, Option, sym, refl, ap, ◌∙◌, subst, inl, inr, arith}
use Rattle.frames.specs.Buses.{bus}
use Rattle.frames.specs.Samples.{silence}
use Rattle.frames.specs.declared.samples.Frame.{Frame}
use Rattle.playing.proofs.Hearing.{answers_last, HasHeard, heard_more, stepped_lawful, unit_moved, unit_unmoved}
use Rattle.playing.proofs.Slots.{other_frame, other_node, slot_inside}
use Rattle.playing.specs.Tape.{on_tape, slot}
use Rattle.playing.specs.Work.{Deck, given, hears, moved, node_work}
use Rattle.racks.specs.Rack.{heard_by, RackLaws, stepped, unit}
use Rattle.reels.specs.Tracks.{Tracks}
use Rattle.session.specs.Plan.{KeepsRules, line, lines_into, node, Plan}
use Rattle.session.specs.declared.nodes.Source.{Source}
use Rattle.session.specs.declared.nodes.Source.TheVariants.{Track, Bus}
use Rattle.signals.proofs.Lines.{all_lines, map_same}
use Rattle.signals.proofs.Units.{unit_lawful}
use Rattle.signals.specs.Signals.{brought, input, last_frame, Signal, SilentBefore, span, Under}
use Rattle.std.proofs.lemmas.List.{get_or-set_other, get_or-set_same, length-set}
use Rattle.std.proofs.lemmas.Int.{by_lt_z, ints}
use Rattle.std.proofs.lemmas.Bool.{cases_eq, cond-false, cond-true, eq-eqb, ne_eqb}
use Rattle.voices.specs.Meaning.{Meaning}

span_push : (x : Signal Frame) (b : ℤ) (k : ℕ) → span x b (suc k) ≡ span x b k ++ x (b +ℤ pos k) ∷ []
span_push x b zero = ap (λ n. x n ∷ []) (omega (arith, ints))
span_push x b (suc k) =
    let e : b +ℤ pos 1 +ℤ pos k ≡ b +ℤ pos (suc k) = omega (arith, ints) in
    ap (λ l. x b ∷ l) (span_push x (b +ℤ pos 1) k ∙ ap (λ n. span x (b +ℤ pos 1) k ++ x n ∷ []) e)

-- node v has one frame more
abbrev pub one_more : (ℕ → ℕ) → ℕ → ℕ → ℕ
one_more upto v w = cond (eqb w v) (suc (upto w)) (upto w)

module _ (p : Plan) (rack : List (Meaning Frame)) (reel : Tracks) (delay : ℕ → ℕ) (x : ℕ → Signal Frame) where
  -- what node v hears under the patch
  abbrev pub incoming : ℕ → Signal Frame
  incoming v = input p reel delay x v (node p v).source

  -- a deck that follows the signals, where node v's frames before `upto v` are played
  pub record Follows (upto : ℕ → ℕ) (d : Deck) : Type 0 where
    pub long : length d.tape ≡ 16384
    pub holds : (v : ℕ) (m : ℤ) → v < length p.nodes → m <ℤ pos (upto v) → pos (upto v) ≤ℤ (m +ℤ pos 1024) → on_tape d.tape v m ≡ x v m
    pub laws : RackLaws d.units
    pub voices : (s : ℕ) → (unit d.units s).voice ≡ (unit rack s).voice
    pub lates : (s : ℕ) → (unit d.units s).late ≡ (unit rack s).late
    pub heard : (v s : ℕ) → v < length p.nodes → (node p v).unit ≡ Some s → HasHeard (unit d.units s) (span (incoming v) (pos 0) (upto v))

  pub follows_same : (f g : ℕ → ℕ) (d : Deck) → ((v : ℕ) → v < length p.nodes → f v ≡ g v) → Follows f d → Follows g d
  follows_same f g d same h = record {
    long = h.long;
    holds = λ v m l a b. let e = same v l in h.holds v m l (rw (← e) at a) (rw (← e) at b);
    laws = h.laws;
    voices = h.voices;
    lates = h.lates;
    heard = λ v s l e. rw (same v l) at (h.heard v s l e);
  }

-- One node's work at frame n: its lines' starts have played frame n, and it has not.
module _ (p : Plan) (rack : List (Meaning Frame)) (reel : Tracks) (delay : ℕ → ℕ) (x : ℕ → Signal Frame) (rules : KeepsRules p)
    (short : (i : ℕ) → i < length p.lines → delay i ≤ 1023) (run : Under p rack reel delay x)
    (quiet : (v : ℕ) → v < length p.nodes → SilentBefore silence (incoming p rack reel delay x v) (pos 0))
    (n v : ℕ) (l : v < length p.nodes) (upto : ℕ → ℕ) (at : upto v ≡ n)
    (starts : (i : ℕ) → i < length p.lines → (line p i).end ≡ v → upto (line p i).start ≡ suc n)
    (d : Deck) (f : Follows p rack reel delay x upto d) where
  -- it hears what comes in under the patch
  from_source : (source : Source) → input p reel delay (on_tape d.tape) v source (pos n) ≡ input p reel delay x v source (pos n)
  from_source (Track track) = refl
  from_source Bus =
      ap bus (map_same (brought p delay (on_tape d.tape) (pos n)) (brought p delay x (pos n)) (lines_into p v)
      (all_lines p v (λ i. brought p delay (on_tape d.tape) (pos n) i ≡ brought p delay x (pos n) i)
      (λ i b e. ap (λ frame. record { frame = frame; gain = (line p i).gain })
      (let s = starts i b e in let k = short i b in f.holds (line p i).start (pos n -ℤ pos (delay i)) (rules.starts i b) (omega (arith, ints)) (omega (arith, ints))))))

  hears_right : hears p delay reel d.tape n v ≡ incoming p rack reel delay x v (pos n)
  hears_right = from_source (node p v).source

  so_far : List Frame
  so_far = span (incoming p rack reel delay x v) (pos 0) n

  one_further : so_far ++ hears p delay reel d.tape n v ∷ [] ≡ span (incoming p rack reel delay x v) (pos 0) (suc n)
  unfolding so_far
  one_further =
      let e : pos 0 +ℤ pos n ≡ pos n = omega (arith, ints) in
      ap (λ g. span (incoming p rack reel delay x v) (pos 0) n ++ g ∷ []) (hears_right ∙ ap (incoming p rack reel delay x v) (sym e))
      ∙ sym (span_push (incoming p rack reel delay x v) (pos 0) n)

  heard_so_far : (s : ℕ) → (node p v).unit ≡ Some s → HasHeard (unit d.units s) so_far
  unfolding so_far
  heard_so_far s e = rw at at (f.heard v s l e)

  -- it gives its frame under the patch
  gives_right : (o : Option ℕ) → (node p v).unit ≡ o → given d.units o (hears p delay reel d.tape n v) ≡ x v (pos n)
  gives_right None e = hears_right ∙ sym (rw e at (run.follows v (pos n) l))
  gives_right (Some s) e =
      let g = hears p delay reel d.tape n v in
      let made = rw e at (run.follows v (pos n) l) in
      answers_last (unit d.units s) (unit_lawful d.units f.laws s) so_far (heard_so_far s e) g
      ∙ ap last_frame (ap (λ voice. voice (so_far ++ g ∷ [])) (f.voices s) ∙ ap (unit rack s).voice one_further)
      ∙ sym (made (pos 0) n (omega (arith, ints)) (quiet v l))

  written : Frame
  written = given d.units (node p v).unit (hears p delay reel d.tape n v)

  inside : slot v (pos n) < length d.tape
  inside = let k = slot_inside v (pos n) (let few = rules.few_nodes in omega arith) in omega (arith, f.long)

  tape_holds : (w : ℕ) (m : ℤ) → w < length p.nodes → m <ℤ pos (one_more upto v w) → pos (one_more upto v w) ≤ℤ (m +ℤ pos 1024)
      → on_tape (set d.tape (slot v (pos n)) written) w m ≡ x w m
  unfolding written
  tape_holds w m k a b = elim (cases_eq w v) [ inl e ↦ here e | inr ne ↦ there ne ]
    where
      there : w ≢ v → on_tape (set d.tape (slot v (pos n)) written) w m ≡ x w m
      there ne =
          let u : one_more upto v w ≡ upto w = cond-false (eqb w v) (suc (upto w)) (upto w) (ne_eqb w v ne) in
          get_or-set_other d.tape (slot v (pos n)) (slot w m) written silence (other_node v w m (pos n) ne)
          ∙ f.holds w m k (rw u at a) (rw u at b)

      newest : m ≡ pos n → on_tape (set d.tape (slot v (pos n)) written) v m ≡ x v m
      newest e =
          ap (λ j. on_tape (set d.tape (slot v (pos n)) written) v j) e
          ∙ get_or-set_same d.tape (slot v (pos n)) written silence inside
          ∙ gives_right (node p v).unit refl ∙ ap (x v) (sym e)

      older : m <ℤ pos n → pos (suc n) ≤ℤ (m +ℤ pos 1024) → on_tape (set d.tape (slot v (pos n)) written) v m ≡ x v m
      older c g =
          get_or-set_other d.tape (slot v (pos n)) (slot v m) written silence (other_frame v m (pos n) c (omega (arith, ints)))
          ∙ f.holds v m l (rw (← at) at c) (let q : pos n ≤ℤ (m +ℤ pos 1024) = omega (arith, ints) in rw (← at) at q)

      here : w ≡ v → on_tape (set d.tape (slot v (pos n)) written) w m ≡ x w m
      here e =
          let u : one_more upto v w ≡ suc n = cond-true (eqb w v) (suc (upto w)) (upto w) (eq-eqb w v e) ∙ ap (λ j. suc (upto j)) e ∙ ap suc at in
          let a' : m <ℤ pos (suc n) = rw u at a in
          let b' : pos (suc n) ≤ℤ (m +ℤ pos 1024) = rw u at b in
          subst (λ j. on_tape (set d.tape (slot v (pos n)) written) j m ≡ x j m) (sym e)
          (by_lt_z m (pos n) (λ c. older c b') (λ c. newest (omega (arith, ints))))

  units_laws : (o : Option ℕ) (g : Frame) → RackLaws (moved d.units o g)
  units_laws None g = f.laws
  units_laws (Some s) g = stepped_lawful d.units s g f.laws

  -- what does not change when a unit steps
  same_of : {A : Type 0} (part : Meaning Frame → A) → ((m : Meaning Frame) (g : Frame) → part (heard_by m g) ≡ part m)
      → (o : Option ℕ) (g : Frame) (t : ℕ) → part (unit (moved d.units o g) t) ≡ part (unit d.units t)
  same_of part keeps None g t = refl
  same_of part keeps (Some s) g t =
      elim (cases_eq t s) [
        | inl e ↦ ap (λ j. part (unit (stepped d.units s g) j)) e ∙ ap part (unit_moved d.units s g) ∙ keeps (unit d.units s) g ∙ ap (λ j. part (unit d.units j)) (sym e)
        | inr ne ↦ ap part (unit_unmoved d.units s t g ne)
      ]

  some_same : (s t : ℕ) (o : Option ℕ) → o ≡ Some s → o ≡ Some t → t ≡ s
  some_same s t o a b = cc

  some_none : (t : ℕ) (o : Option ℕ) → o ≡ None → o ≡ Some t → ⊥
  some_none t o a b = let z : ◌≡◌ {A = ℕ} 0 1 = cc in omega arith

  own_heard : (o : Option ℕ) → (node p v).unit ≡ o → (t : ℕ) → (node p v).unit ≡ Some t
      → HasHeard (unit (moved d.units o (hears p delay reel d.tape n v)) t) (span (incoming p rack reel delay x v) (pos 0) (suc n))
  own_heard None e t i = absurd (some_none t (node p v).unit e i)
  own_heard (Some s) e t i =
      let g = hears p delay reel d.tape n v in
      let same : t ≡ s = some_same s t (node p v).unit e i in
      let more = heard_more (unit d.units s) (unit_lawful d.units f.laws s) so_far (heard_so_far s e) g in
      subst (λ j. HasHeard (unit (stepped d.units s g) j) (span (incoming p rack reel delay x v) (pos 0) (suc n))) (sym same)
      (subst (λ m. HasHeard m (span (incoming p rack reel delay x v) (pos 0) (suc n))) (sym (unit_moved d.units s g))
      (subst (HasHeard (heard_by (unit d.units s) g)) one_further more))

  other_heard : (o : Option ℕ) → (node p v).unit ≡ o → (w t : ℕ) → w < length p.nodes → w ≢ v → (node p w).unit ≡ Some t
      → HasHeard (unit (moved d.units o (hears p delay reel d.tape n v)) t) (span (incoming p rack reel delay x w) (pos 0) (upto w))
  other_heard None e w t k ne i = f.heard w t k i
  other_heard (Some s) e w t k ne i =
      let g = hears p delay reel d.tape n v in
      let apart : t ≢ s = λ q. ne (rules.one_node w v s k l (i ∙ ap Some q) e) in
      subst (λ m. HasHeard m (span (incoming p rack reel delay x w) (pos 0) (upto w))) (sym (unit_unmoved d.units s t g apart)) (f.heard w t k i)

  units_heard : (w t : ℕ) → w < length p.nodes → (node p w).unit ≡ Some t
      → HasHeard (unit (moved d.units (node p v).unit (hears p delay reel d.tape n v)) t) (span (incoming p rack reel delay x w) (pos 0) (one_more upto v w))
  units_heard w t k i = elim (cases_eq w v) [ inl q ↦ own q | inr ne ↦ other ne ]
    where
      own : w ≡ v → HasHeard (unit (moved d.units (node p v).unit (hears p delay reel d.tape n v)) t) (span (incoming p rack reel delay x w) (pos 0) (one_more upto v w))
      own q =
          let u : one_more upto v w ≡ suc n = cond-true (eqb w v) (suc (upto w)) (upto w) (eq-eqb w v q) ∙ ap (λ j. suc (upto j)) q ∙ ap suc at in
          let j : (node p v).unit ≡ Some t = ap (λ y. (node p y).unit) (sym q) ∙ i in
          subst (λ y. HasHeard (unit (moved d.units (node p v).unit (hears p delay reel d.tape n v)) t) (span (incoming p rack reel delay x w) (pos 0) y)) (sym u)
          (subst (λ y. HasHeard (unit (moved d.units (node p v).unit (hears p delay reel d.tape n v)) t) (span (incoming p rack reel delay x y) (pos 0) (suc n))) (sym q)
          (own_heard (node p v).unit refl t j))

      other : w ≢ v → HasHeard (unit (moved d.units (node p v).unit (hears p delay reel d.tape n v)) t) (span (incoming p rack reel delay x w) (pos 0) (one_more upto v w))
      other ne =
          let u : one_more upto v w ≡ upto w = cond-false (eqb w v) (suc (upto w)) (upto w) (ne_eqb w v ne) in
          subst (λ y. HasHeard (unit (moved d.units (node p v).unit (hears p delay reel d.tape n v)) t) (span (incoming p rack reel delay x w) (pos 0) y)) (sym u)
          (other_heard (node p v).unit refl w t k ne i)

  pub node_follows : Follows p rack reel delay x (one_more upto v) (node_work p delay reel n d v)
  unfolding written
  node_follows = record {
    long = length-set d.tape (slot v (pos n)) _ ∙ f.long;
    holds = tape_holds;
    laws = units_laws (node p v).unit (hears p delay reel d.tape n v);
    voices = λ s. same_of (λ m. m.voice) (λ m g. refl) (node p v).unit (hears p delay reel d.tape n v) s ∙ f.voices s;
    lates = λ s. same_of (λ m. m.late) (λ m g. refl) (node p v).unit (hears p delay reel d.tape n v) s ∙ f.lates s;
    heard = units_heard;
  }
