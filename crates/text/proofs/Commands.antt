-- Lines and what they say, in the words of scripts.
use Rattle.std.proofs.Common.{◌≡◌, ℕ, suc, ◌^◌, ◌<◌, ◌≤◌, Bool, true, false, not, ◌&&◌, ltb, leb, List, [], ◌∷◌, ◌++◌, map, length, ℤ, pos, negsuc, Some, None, codes, decimal, MatchBool, Option, sym, refl, ap, ◌∙◌, subst, ap₂, inl, inr, ⊎_elim, arith}
use Rattle.session.specs.Contents.{Contents, Effect, bus_at, fits_unit, free, has_bypass, has_trim, is_set, unit_fits, with_line, with_node, with_rate, with_unit}
use Rattle.session.specs.declared.nodes.Line as links
use Rattle.session.specs.declared.nodes.Node as nodes
use Rattle.session.specs.declared.nodes.Source.{Source}
use Rattle.session.specs.declared.nodes.Source.TheVariants.{Track, Bus}
use Rattle.std.proofs.lemmas.Fmt.{decimal_nonempty, digits_decimal}
use Rattle.std.proofs.lemmas.Bool.{and_from, and_parts, cases_Bool, cond_both, eq-eqb, eqb-true, le-leb, le-ltb, leb-true, lt-ltb, ltb-false, ltb-true, or_left, or_right}
use Rattle.std.proofs.lemmas.Bool.Decides.{when_false, when_true}
use Rattle.std.specs.Fmt.{signed_decimal}
use Rattle.std.specs.List.{AllByRecursion}
use Rattle.text.proofs.Linewise.{Good, Says, plain}
use Rattle.text.proofs.Spelt.{name_sound, own, small}
use Rattle.text.proofs.Turned.{KindRest, LayerRest, LinkRest, NodeRest, SessionRest, UnitOk, UnitRest, gains, source_spelt, unit_spelt}
use Rattle.text.specs.Scripts.{IsGain, LinkFits, NodeFits, Setup, SetupFits, Sort, SortRanges, SourceRange, UnitRange, a_delay, a_fir, a_limit, a_pan, after_setup, bypasses, end_words, link_words, made, node_words, session_words, sets, setup_words, sort_words, source_words, trims, unit_words}
use Rattle.text.specs.Stages.{first_of, next_stage}
use Rattle.text.specs.declared.stages.First as firsts
use Rattle.text.specs.declared.stages.First.TheVariants.{Session, Unit, Layer, Node, Line, End, Other}
use Rattle.text.specs.declared.stages.Stage.{Stage}
use Rattle.text.specs.declared.stages.Stage.TheVariants.{Head as AtHead, Units, Nodes, Lines}
use Rattle.words.specs.Bytes.{all_digits, all_letters, is_digit, is_letter}
use Rattle.words.specs.Words.{Spelling, is_name, name, spelling}

pub when_yes : (b : Bool) (P Q : Type 0) → b ≡ true → P → MatchBool b P Q
when_yes b P Q e p = subst (λ v. MatchBool v P Q) (sym e) p

pub when_no : (b : Bool) (P Q : Type 0) → b ≡ false → Q → MatchBool b P Q
when_no b P Q e q = subst (λ v. MatchBool v P Q) (sym e) q

pub gains_words : (gs : List ℤ) → gains gs ≡ map spelling (map signed_decimal gs)
gains_words [] = refl
gains_words (g ∷ gs) = ap (λ l. spelling (signed_decimal g) ∷ l) (gains_words gs)

unit_tail : (u : Option ℕ) → unit_spelt u ≡ map spelling (unit_words u)
unfolding spelling all_letters
unit_tail None = refl
unit_tail (Some s) = refl

pub node_tail : (s : Source) (u : Option ℕ) → source_spelt s ++ unit_spelt u ≡ map spelling (source_words s ++ unit_words u)
unfolding spelling all_letters
node_tail (Track q) u = ap (λ z. name (codes "track") ∷ spelling (decimal q) ∷ z) (unit_tail u)
node_tail Bus u = ap (λ z. name (codes "bus") ∷ z) (unit_tail u)

-- the first word of each kind of line
abbrev pub FirstIs : firsts.First → Spelling → Type 0
FirstIs Session w = w ≡ name (codes "session")
FirstIs Unit w = w ≡ name (codes "unit")
FirstIs Layer w = w ≡ name (codes "layer")
FirstIs Node w = w ≡ name (codes "node")
FirstIs Line w = w ≡ name (codes "line")
FirstIs End w = w ≡ name (codes "end")
FirstIs Other w = w ≡ w

pub first_is : (w : Spelling) → FirstIs (first_of w) w
first_is w =
    cond_both (is_name (codes "session") w) Session _ (λ f. FirstIs f w) (name_sound (codes "session") w)
    (λ _. cond_both (is_name (codes "unit") w) Unit _ (λ f. FirstIs f w) (name_sound (codes "unit") w)
    (λ _. cond_both (is_name (codes "layer") w) Layer _ (λ f. FirstIs f w) (name_sound (codes "layer") w)
    (λ _. cond_both (is_name (codes "node") w) Node _ (λ f. FirstIs f w) (name_sound (codes "node") w)
    (λ _. cond_both (is_name (codes "line") w) Line _ (λ f. FirstIs f w) (name_sound (codes "line") w)
    (λ _. cond_both (is_name (codes "end") w) End Other (λ f. FirstIs f w) (name_sound (codes "end") w) (λ _. refl))))))

-- a unit line
module _ (c d : Contents) (vs : List Spelling) where
  abbrev pub ASetup : Spelling → Type 0
  ASetup w = (x : Setup) × SetupFits c x × (d ≡ after_setup c x) × (w ∷ vs ≡ map spelling (setup_words x))

  kind_sound : (s : ℕ) (e : Effect) (us : List Spelling) → not (is_set c s) ≡ true → s ≤ 7 → KindRest s e us → (k : Sort) × (e ≡ made k) × (unit_fits c s (made k) ≡ true) × SortRanges k × (us ≡ map spelling (sort_words k))
  unfolding spelling all_letters
  kind_sound s e us free few r =
      ⊎_elim (λ a. let f = when_true _ _ a r in (a_fir f.0, f.1, and_from (ltb s 2) _ a free, (f.2, f.3, f.4), f.5 ∙ ap (λ z. name (codes "fir") ∷ spelling (decimal (length f.0)) ∷ z) (gains_words f.0)))
      (λ a. let r₁ = when_false _ _ a r in let lo = ltb-false s 2 a in
      ⊎_elim (λ b. let f = when_true _ _ b r₁ in (a_limit f.0 f.1, f.2, and_from (leb 2 s && ltb s 4) _ (and_from (leb 2 s) (ltb s 4) (le-leb 2 s lo) b) free, (f.3, f.4, f.5), f.6))
      (λ b. let r₂ = when_false _ _ b r₁ in let lo₂ = ltb-false s 4 b in
      ⊎_elim (λ g. let f = when_true _ _ g r₂ in (a_pan f.0, f.1, and_from (leb 4 s && ltb s 6) _ (and_from (leb 4 s) (ltb s 6) (le-leb 4 s lo₂) g) free, f.2, f.3))
      (λ g. let f = when_false _ _ g r₂ in let lo₃ = ltb-false s 6 g in
      (a_delay f.0, f.1, and_from (leb 6 s && ltb s 8) _ (and_from (leb 6 s) (ltb s 8) (le-leb 6 s lo₃) (lt-ltb s 8 (omega arith))) free, f.2, f.3))
      (cases_Bool (ltb s 6)))
      (cases_Bool (ltb s 4)))
      (cases_Bool (ltb s 2))

  pub unit_sound : UnitRest c d vs → ASetup (name (codes "unit"))
  unfolding spelling all_letters
  unit_sound h =
      let k = kind_sound h.0 h.1 h.5 h.4 h.3 h.7 in
      (sets h.0 k.0, (k.2, k.3), h.2 ∙ ap (with_unit c h.0) k.1, ap (λ z. name (codes "unit") ∷ z) (h.6 ∙ ap (λ z. spelling (decimal h.0) ∷ z) k.4))

  pub layer_sound : LayerRest c d vs → ASetup (name (codes "layer"))
  unfolding spelling all_letters
  layer_sound h =
      ⊎_elim (λ t. (trims t.0 t.1, (t.3, and_from (is_set c t.0) _ t.4 t.5, t.6), t.2, ap (λ z. name (codes "layer") ∷ z) t.7))
      (λ t. (bypasses t.0, (t.2, and_from (is_set c t.0) _ t.3 t.4), t.1, ap (λ z. name (codes "layer") ∷ z) t.5)) h

  unit_free : (u : Option ℕ) → UnitOk c u → (free c u ≡ true) × UnitRange u
  unit_free None h = (refl, tt)
  unit_free (Some s) h = (h.1, h.0)

  abbrev pub ANode : Spelling → Type 0
  ANode w = (n : nodes.Node) × NodeFits c n × (d ≡ with_node c n) × (w ∷ vs ≡ map spelling (node_words (length c.nodes) n))

  pub node_sound : NodeRest c d vs → ANode (name (codes "node"))
  unfolding spelling all_letters
  node_sound h =
      let n = h.1 in
      let e : h.0 ≡ length c.nodes = eqb-true h.0 (length c.nodes) h.4 in
      let few = h.3 in
      let u = unit_free n.unit h.6 in (
        n,
        (and_from (ltb (length c.nodes) 16) _ (lt-ltb (length c.nodes) 16 (omega arith)) u.0, h.5, u.1),
        h.2,
        ap (λ z. name (codes "node") ∷ z) (h.7 ∙ ap₂ (λ v z. spelling (decimal v) ∷ z) e (node_tail n.source n.unit)),
      )

  abbrev pub ALink : Spelling → Type 0
  ALink w = (l : links.Line) × LinkFits c l × (d ≡ with_line c l) × (w ∷ vs ≡ map spelling (link_words l))

  pub link_sound : LinkRest c d vs → ALink (name (codes "line"))
  unfolding spelling all_letters
  link_sound h =
      (h.0, (and_from (ltb (length c.lines) 48) _ h.2 (and_from (ltb h.0.start (length c.nodes)) _ h.4 h.6), h.3, h.5, h.7), h.1, ap (λ z. name (codes "line") ∷ z) h.8)

  abbrev pub ASession : Spelling → Type 0
  ASession w = (r : ℕ) × (8000 ≤ r) × (r ≤ 192000) × (d ≡ with_rate c r) × (w ∷ vs ≡ map spelling (session_words r))

  pub session_sound : SessionRest c d vs → ASession (name (codes "session"))
  unfolding spelling all_letters all_digits
  session_sound h = (h.0, h.2, h.3, h.1, ap (λ z. name (codes "session") ∷ z) h.4)

-- and the other way round
module _ (c : Contents) where
  kind_complete : (s : ℕ) (k : Sort) → fits_unit s (made k) ≡ true → SortRanges k → KindRest s (made k) (map spelling (sort_words k))
  unfolding spelling all_letters
  kind_complete s (a_fir gs) f r = when_yes (ltb s 2) _ _ f (gs, refl, r.0, r.1, r.2, ap (λ z. name (codes "fir") ∷ spelling (decimal (length gs)) ∷ z) (sym (gains_words gs)))
  kind_complete s (a_limit a b) f r =
      let p = and_parts (leb 2 s) (ltb s 4) f in
      when_no (ltb s 2) _ _ (le-ltb s 2 (leb-true 2 s p.0)) (when_yes (ltb s 4) _ _ p.1 (a, b, refl, r.0, r.1, r.2, refl))
  kind_complete s (a_pan a) f r =
      let p = and_parts (leb 4 s) (ltb s 6) f in
      let q = leb-true 4 s p.0 in
      when_no (ltb s 2) _ _ (le-ltb s 2 (omega arith)) (when_no (ltb s 4) _ _ (le-ltb s 4 q) (when_yes (ltb s 6) _ _ p.1 (a, refl, r, refl)))
  kind_complete s (a_delay a) f r =
      let p = and_parts (leb 6 s) (ltb s 8) f in
      let q = leb-true 6 s p.0 in
      when_no (ltb s 2) _ _ (le-ltb s 2 (omega arith)) (when_no (ltb s 4) _ _ (le-ltb s 4 (omega arith)) (when_no (ltb s 6) _ _ (le-ltb s 6 q) (a, refl, r, refl)))

  unit_most : (s : ℕ) (k : Sort) → fits_unit s (made k) ≡ true → s ≤ 7
  unit_most s (a_fir gs) f = omega (arith, ltb-true s 2 f)
  unit_most s (a_limit a b) f = omega (arith, ltb-true s 4 (and_parts (leb 2 s) (ltb s 4) f).1)
  unit_most s (a_pan a) f = omega (arith, ltb-true s 6 (and_parts (leb 4 s) (ltb s 6) f).1)
  unit_most s (a_delay a) f = omega (arith, ltb-true s 8 (and_parts (leb 6 s) (ltb s 8) f).1)

  pub setup_complete : (x : Setup) → SetupFits c x → Says Units c (setup_words x) (record { stage = Units; held = after_setup c x; ended = false })
  unfolding spelling all_letters
  setup_complete (sets s k) h =
      let p = and_parts (fits_unit s (made k)) (not (is_set c s)) h.0 in
      (name (codes "unit"), spelling (decimal s) ∷ map spelling (sort_words k), refl, (Units, refl, (with_unit c s (made k), refl, (s, made k, refl, unit_most s k p.0, p.1, map spelling (sort_words k), refl, kind_complete s k p.0 h.1))))
  setup_complete (trims s g) h =
      let p = and_parts (is_set c s) (not (has_trim c s)) h.1 in
      (name (codes "layer"), spelling (decimal s) ∷ name (codes "trim") ∷ spelling (signed_decimal g) ∷ [], refl, (Units, refl, (after_setup c (trims s g), refl, inl (s, g, refl, h.0, p.0, p.1, h.2, refl))))
  setup_complete (bypasses s) h =
      let p = and_parts (is_set c s) (not (has_bypass c s)) h.1 in
      (name (codes "layer"), spelling (decimal s) ∷ name (codes "bypass") ∷ [], refl, (Units, refl, (after_setup c (bypasses s), refl, inr (s, refl, h.0, p.0, p.1, refl))))

  unit_back : (u : Option ℕ) → free c u ≡ true → UnitRange u → UnitOk c u
  unit_back None f r = tt
  unit_back (Some s) f r = (r, f)

  pub node_complete : (st : Stage) → next_stage st Node ≡ Some Nodes → (n : nodes.Node) → NodeFits c n → Says st c (node_words (length c.nodes) n) (record { stage = Nodes; held = with_node c n; ended = false })
  unfolding spelling all_letters
  node_complete st due n h =
      let p = and_parts (ltb (length c.nodes) 16) (free c n.unit) h.0 in
      let few = ltb-true (length c.nodes) 16 p.0 in
      (name (codes "node"), _, refl, (Nodes, due, (with_node c n, refl, (length c.nodes, n, refl, omega arith, eq-eqb (length c.nodes) (length c.nodes) refl, h.1, unit_back n.unit p.1 h.2, ap (λ z. spelling (decimal (length c.nodes)) ∷ z) (sym (node_tail n.source n.unit))))))

  pub link_complete : (st : Stage) → next_stage st Line ≡ Some Lines → (l : links.Line) → LinkFits c l → Says st c (link_words l) (record { stage = Lines; held = with_line c l; ended = false })
  unfolding spelling all_letters
  link_complete st due l h =
      let p = and_parts (ltb (length c.lines) 48) (ltb l.start (length c.nodes) && bus_at c l.end) h.0 in
      let q = and_parts (ltb l.start (length c.nodes)) (bus_at c l.end) p.1 in
      (name (codes "line"), _, refl, (Lines, due, (with_line c l, refl, (l, refl, p.0, h.1, q.0, h.2, q.1, h.3, refl))))

  pub end_complete : (st : Stage) → next_stage st End ≡ Some st → Says st c end_words (record { stage = st; held = c; ended = true })
  unfolding spelling all_letters
  end_complete st due = (name (codes "end"), [], refl, (st, due, (c, refl, (refl, refl))))

  pub session_complete : (r : ℕ) → 8000 ≤ r → r ≤ 192000 → Says AtHead c (session_words r) (record { stage = Units; held = with_rate c r; ended = false })
  unfolding spelling all_letters all_digits
  session_complete r lo hi = (name (codes "session"), _, refl, (Units, refl, (with_rate c r, refl, (r, refl, lo, hi, refl))))

-- the words of lines have known bytes
all_plain : List ℕ → Bool
all_plain [] = true
all_plain (b ∷ bs) = plain b && all_plain bs

plain_all : (w : List ℕ) → all_plain w ≡ true → AllByRecursion (λ b. plain b ≡ true) w
unfolding all_plain
plain_all [] e = tt
plain_all (b ∷ bs) e = let p = and_parts (plain b) (all_plain bs) e in (p.0, plain_all bs p.1)

good_key : (w : List ℕ) → (ltb 0 (length w) && all_plain w) ≡ true → Good w
good_key w e = let p = and_parts (ltb 0 (length w)) (all_plain w) e in (ltb-true 0 (length w) p.0, plain_all w p.1)

plain_digits : (ds : List ℕ) → all_digits ds ≡ true → AllByRecursion (λ b. plain b ≡ true) ds
unfolding all_digits
plain_digits [] e = tt
plain_digits (d ∷ ds) e = let p = and_parts (is_digit d) (all_digits ds) e in (or_right (is_letter d) _ (or_left (is_digit d) _ p.0), plain_digits ds p.1)

pub good_decimal : (n : ℕ) → n < 10 ^ 6 → Good (decimal n)
good_decimal n h = (decimal_nonempty n (small n h), plain_digits (decimal n) (digits_decimal own n (small n h)))

pub good_signed : (z : ℤ) → IsGain z → Good (signed_decimal z)
good_signed (pos n) h = good_decimal n (omega arith)
good_signed (negsuc n) h = let few : suc n < 10 ^ 6 = omega arith in (omega arith, (refl, (good_decimal (suc n) few).1))

good_gains : (gs : List ℤ) → AllByRecursion IsGain gs → AllByRecursion Good (map signed_decimal gs)
good_gains [] h = tt
good_gains (g ∷ gs) h = (good_signed g h.0, good_gains gs h.1)

good_sort : (k : Sort) → SortRanges k → AllByRecursion Good (sort_words k)
unfolding all_plain
good_sort (a_fir gs) h = let few = h.0 in (good_key (codes "fir") refl, (good_decimal (length gs) (omega arith), good_gains gs h.2))
good_sort (a_limit a b) h = let x = h.0 in let y = h.2 in (good_key (codes "limit") refl, (good_decimal a (omega arith), (good_decimal b (omega arith), tt)))
good_sort (a_pan a) h = (good_key (codes "pan") refl, (good_decimal a (omega arith), tt))
good_sort (a_delay a) h = (good_key (codes "delay") refl, (good_decimal a (omega arith), tt))

pub good_setup : (c : Contents) (x : Setup) → SetupFits c x → AllByRecursion Good (setup_words x)
unfolding all_plain
good_setup c (sets s k) h = let m = unit_most c s k (and_parts (fits_unit s (made k)) (not (is_set c s)) h.0).0 in (good_key (codes "unit") refl, (good_decimal s (omega arith), good_sort k h.1))
good_setup c (trims s g) h = let m = h.0 in (good_key (codes "layer") refl, (good_decimal s (omega arith), (good_key (codes "trim") refl, (good_signed g h.2, tt))))
good_setup c (bypasses s) h = let m = h.0 in (good_key (codes "layer") refl, (good_decimal s (omega arith), (good_key (codes "bypass") refl, tt)))

good_unit : (u : Option ℕ) → UnitRange u → AllByRecursion Good (unit_words u)
unfolding all_plain
good_unit None h = tt
good_unit (Some s) h = (good_key (codes "unit") refl, (good_decimal s (omega arith), tt))

good_rest : (s : Source) (u : Option ℕ) → SourceRange s → UnitRange u → AllByRecursion Good (source_words s ++ unit_words u)
unfolding all_plain
good_rest (Track q) u h r = (good_key (codes "track") refl, (good_decimal q (omega arith), good_unit u r))
good_rest Bus u h r = (good_key (codes "bus") refl, good_unit u r)

pub good_node : (c : Contents) (n : nodes.Node) → NodeFits c n → AllByRecursion Good (node_words (length c.nodes) n)
unfolding all_plain
good_node c n h =
    let few = ltb-true (length c.nodes) 16 (and_parts (ltb (length c.nodes) 16) (free c n.unit) h.0).0 in
    (good_key (codes "node") refl, (good_decimal (length c.nodes) (omega arith), good_rest n.source n.unit h.1 h.2))

pub good_link : (c : Contents) (l : links.Line) → LinkFits c l → AllByRecursion Good (link_words l)
unfolding all_plain
good_link c l h = let a = h.1 in let b = h.2 in (good_key (codes "line") refl, (good_decimal l.start (omega arith), (good_decimal l.end (omega arith), (good_signed l.gain h.3, tt))))

pub good_end : AllByRecursion Good end_words
unfolding all_plain
good_end = (good_key (codes "end") refl, tt)

pub good_session : (r : ℕ) → r ≤ 192000 → AllByRecursion Good (session_words r)
unfolding all_plain
good_session r h = (good_key (codes "session") refl, (good_key (codes "1") refl, (good_decimal r (omega arith), tt)))
