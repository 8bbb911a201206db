-- What each line's words after the first are.
use Rattle.std.proofs.Common.{◌≡◌, ℕ, zero, suc, ◌+◌, ◌%◌, ◌≤◌, Bool, true, false, cond, not, eqb, ltb, ◌⊎◌, List, [], ◌∷◌, ◌++◌, map, length, set, replicate, ℤ, pos, Some, None, Ok, codes, decimal, MatchBool, Option, sym, refl, ap, ◌∙◌, subst, ap₂, inl, inr, ⊎_elim, arith}
use Rattle.forms.specs.Forms.{bypass_form, count_form, delay_form, fir_form, given_layer, joined_form, kind_form, layer_form, limit_form, line_form, node_form, numbered, pan_form, role_fits, session_form, some_unit, source_form, taps_form, trim_form, unit_form, unit_or_none, unit_part}
use Rattle.turns.specs.Turns.{line_turn, node_turn, session_turn, unit_turn}
use Rattle.forms.specs.declared.roles.Role.TheVariants.{NewUnit, SetUnit, FreeUnit, NextNode, AnyNode, BusNode}
use Rattle.session.specs.Contents.{Contents, Effect, bus_at, delay, fir, has_bypass, has_trim, is_set, limit, pan, with_bypass, with_line, with_node, with_rate, with_trim, with_unit}
use Rattle.std.proofs.lemmas.List.{append-nil}
use Rattle.std.proofs.lemmas.Bool.{cases_Bool}
use Rattle.std.proofs.lemmas.Bool.Decides.{when_false, when_true}
use Rattle.std.specs.Fmt.{signed_decimal}
use Rattle.session.specs.declared.nodes.Line.{Line}
use Rattle.session.specs.declared.nodes.Node.{Node}
use Rattle.session.specs.declared.nodes.Source.{Source}
use Rattle.session.specs.declared.nodes.Source.TheVariants.{Track, Bus}
use Rattle.std.specs.List.{AllByRecursion}
use Rattle.text.proofs.Grammar.{Done, Ends, Head, ends_ask, ends_assoc, ends_cond, ends_cond_bind, ends_done, ends_map, ends_none, ends_to, ends_word, nil_not, ok_is, words_in}
use Rattle.text.proofs.Spelt.{name_sound, one_sound}
use Rattle.text.proofs.Steps.{AGain, ANumber, ANumbered, ends_count, ends_gain, ends_keyword, ends_numbered, ends_ranged}
use Rattle.text.specs.Scripts.{IsGain, SourceRange, put_from}
use Rattle.words.specs.Parsing.{Parse, ◌>>=◌, ◌>>◌, gain_word, give, keyword, no_more, ranged, refuse, word}
use Rattle.words.specs.Words.{Cursor, Item, Spelling, is_name, is_one, name, number, spelling}
use Rattle.words.specs.declared.faults.ReadFault.TheVariants.{Fit, Form, Full}

-- `1 R`
abbrev pub SessionRest : Contents → Contents → List Spelling → Type 0
SessionRest c d ws = (r : ℕ) × (d ≡ with_rate c r) × (8000 ≤ r) × (r ≤ 192000) × (ws ≡ number (49 ∷ []) ∷ spelling (decimal r) ∷ [])

pub ends_session : (c : Contents) → Ends (session_turn c) (SessionRest c)
ends_session c =
    ends_to (SessionRest c)
    (ends_map session_form (with_rate c) _
    (ends_word _ (λ w y vs. (is_one w ≡ true) × ANumber (λ rate. no_more >> give rate) (λ r. Done r) (λ r. ends_done r) 8000 192000 y vs)
    (λ w. ends_ask (is_one w.word) (Form w.place) _ _ (ends_ranged (λ rate. no_more >> give rate) (λ r. Done r) (λ r. ends_done r) 8000 192000 (omega arith)))))
    (λ d ws h. let n = h.2.3.1 in (n.0, h.1 ∙ ap (with_rate c) n.5.0, n.3, n.4, h.2.2 ∙ ap₂ ◌∷◌ (one_sound h.2.0 h.2.3.0) (n.2 ∙ ap (λ z. spelling (decimal n.0) ∷ z) n.5.1)))
    (λ d ws h. (h.0, h.1, (number (49 ∷ []), spelling (decimal h.0) ∷ [], h.4, (refl, (h.0, [], refl, h.2, h.3, (refl, refl))))))

-- the words of gains
abbrev pub gains : List ℤ → List Spelling
gains = map (λ g. spelling (signed_decimal g))

module _ {Y : Type 0} (f : List ℤ → Parse Y) (M : List ℤ → Y → List Spelling → Type 0) (each : (t : List ℤ) → Ends (f t) (M t)) where
  abbrev pub SomeTaps : ℕ → ℕ → List ℤ → Y → List Spelling → Type 0
  SomeTaps i n arr y ws = (gs : List ℤ) × (vs : List Spelling) × (length gs ≡ n) × AllByRecursion IsGain gs × (ws ≡ gains gs ++ vs) × M (put_from i gs arr) y vs

  no_taps : (i : ℕ) (arr : List ℤ) (y : Y) (ws : List Spelling) (gs : List ℤ) (vs : List Spelling) → length gs ≡ 0 → ws ≡ gains gs ++ vs → M (put_from i gs arr) y vs → M arr y ws
  unfolding put_from
  no_taps i arr y ws [] vs l e m = subst (M arr y) (sym e) m
  no_taps i arr y ws (g ∷ gs) vs l e m = absurd (omega arith)

  one_tap : (i n : ℕ) (arr : List ℤ) (y : Y) (ws : List Spelling) (gs : List ℤ) (vs : List Spelling) → length gs ≡ suc n → AllByRecursion IsGain gs → ws ≡ gains gs ++ vs → M (put_from i gs arr) y vs
      → (g : ℤ) × (us : List Spelling) × (ws ≡ spelling (signed_decimal g) ∷ us) × IsGain g × SomeTaps (i + 1) n (set arr i g) y us
  unfolding put_from
  one_tap i n arr y ws [] vs l a e m = absurd (omega arith)
  one_tap i n arr y ws (g ∷ gs) vs l a e m = (g, gains gs ++ vs, e, a.0, (gs, vs, omega arith, a.1, refl, m))

  pub ends_taps : (n i : ℕ) (arr : List ℤ) → Ends (taps_form i n arr >>= f) (SomeTaps i n arr)
  unfolding taps_form put_from
  ends_taps zero i arr = ends_to (SomeTaps i zero arr) (each arr) (λ y ws h. ([], ws, refl, tt, refl, h)) (λ y ws h. no_taps i arr y ws h.0 h.1 h.2 h.4 h.5)
  ends_taps (suc n) i arr =
      ends_to (SomeTaps i (suc n) arr)
      (ends_assoc gain_word (λ g. taps_form (i + 1) n (set arr i g)) f _
      (ends_gain (λ g. taps_form (i + 1) n (set arr i g) >>= f) (λ g. SomeTaps (i + 1) n (set arr i g)) (λ g. ends_taps n (i + 1) (set arr i g))))
      (λ y ws h. (h.0 ∷ h.4.0, h.4.1, ap suc h.4.2, (h.3, h.4.3), h.2 ∙ ap (λ z. spelling (signed_decimal h.0) ∷ z) h.4.4, h.4.5))
      (λ y ws h. one_tap i n arr y ws h.0 h.1 h.2 h.3 h.4 h.5)

abbrev pub no_taps_yet : List ℤ
no_taps_yet = replicate 31 (pos 0)

-- `fir T H..`, `limit A C`, `pan P`, `delay K`
abbrev pub FirRest : Effect → List Spelling → Type 0
FirRest e ws = (gs : List ℤ) × (e ≡ fir (put_from 0 gs no_taps_yet) (length gs)) × (length gs ≤ 31) × (length gs % 2 ≡ 1) × AllByRecursion IsGain gs × (ws ≡ name (codes "fir") ∷ spelling (decimal (length gs)) ∷ gains gs)

abbrev pub LimitRest : Effect → List Spelling → Type 0
LimitRest e ws = (a : ℕ) × (b : ℕ) × (e ≡ limit a b) × (a ≤ 63) × (1 ≤ b) × (b ≤ 32767) × (ws ≡ name (codes "limit") ∷ spelling (decimal a) ∷ spelling (decimal b) ∷ [])

abbrev pub PanRest : Effect → List Spelling → Type 0
PanRest e ws = (a : ℕ) × (e ≡ pan a) × (a ≤ 256) × (ws ≡ name (codes "pan") ∷ spelling (decimal a) ∷ [])

abbrev pub DelayRest : Effect → List Spelling → Type 0
DelayRest e ws = (a : ℕ) × (e ≡ delay a) × (a ≤ 63) × (ws ≡ name (codes "delay") ∷ spelling (decimal a) ∷ [])

abbrev pub KindRest : ℕ → Effect → List Spelling → Type 0
KindRest s e ws = MatchBool (ltb s 2) (FirRest e ws) (MatchBool (ltb s 4) (LimitRest e ws) (MatchBool (ltb s 6) (PanRest e ws) (DelayRest e ws)))

module _ {Y : Type 0} (h : Effect → Y) where
  abbrev pub H : Effect → Parse Y
  H e = no_more >> give (h e)

  abbrev pub Of : (Effect → List Spelling → Type 0) → Y → List Spelling → Type 0
  Of L y ws = (e : Effect) × (y ≡ h e) × L e ws

  ends_pan : Ends (pan_form >>= H) (Of PanRest)
  ends_pan =
      ends_to (Of PanRest)
      (ends_assoc (keyword (codes "pan")) (λ _. ranged 0 256 >>= (λ p. give (pan p))) H _
      (ends_keyword _ _ (ends_assoc (ranged 0 256) (λ p. give (pan p)) H _ (ends_ranged (λ p. H (pan p)) (λ p. Done (h (pan p))) (λ p. ends_done (h (pan p))) 0 256 (omega arith))) (codes "pan")))
      (λ y ws g. let n = g.2 in (pan n.0, n.5.0, (n.0, refl, n.4, g.1 ∙ ap (λ z. name (codes "pan") ∷ z) (n.2 ∙ ap (λ z. spelling (decimal n.0) ∷ z) n.5.1))))
      (λ y ws g. let n = g.2 in (spelling (decimal n.0) ∷ [], n.3, (n.0, [], refl, omega arith, n.2, (g.1 ∙ ap h n.1, refl))))

  ends_delay : Ends (delay_form >>= H) (Of DelayRest)
  ends_delay =
      ends_to (Of DelayRest)
      (ends_assoc (keyword (codes "delay")) (λ _. ranged 0 63 >>= (λ p. give (delay p))) H _
      (ends_keyword _ _ (ends_assoc (ranged 0 63) (λ p. give (delay p)) H _ (ends_ranged (λ p. H (delay p)) (λ p. Done (h (delay p))) (λ p. ends_done (h (delay p))) 0 63 (omega arith))) (codes "delay")))
      (λ y ws g. let n = g.2 in (delay n.0, n.5.0, (n.0, refl, n.4, g.1 ∙ ap (λ z. name (codes "delay") ∷ z) (n.2 ∙ ap (λ z. spelling (decimal n.0) ∷ z) n.5.1))))
      (λ y ws g. let n = g.2 in (spelling (decimal n.0) ∷ [], n.3, (n.0, [], refl, omega arith, n.2, (g.1 ∙ ap h n.1, refl))))

  ends_limit : Ends (limit_form >>= H) (Of LimitRest)
  ends_limit =
      ends_to (Of LimitRest)
      (ends_assoc (keyword (codes "limit")) (λ _. ranged 0 63 >>= (λ a. ranged 1 32767 >>= (λ c. give (limit a c)))) H _
      (ends_keyword _ _ (ends_assoc (ranged 0 63) (λ a. ranged 1 32767 >>= (λ c. give (limit a c))) H _
      (ends_ranged (λ a. (ranged 1 32767 >>= (λ c. give (limit a c))) >>= H) (λ a. ANumber (λ c. H (limit a c)) (λ c. Done (h (limit a c))) (λ c. ends_done (h (limit a c))) 1 32767)
      (λ a. ends_assoc (ranged 1 32767) (λ c. give (limit a c)) H _ (ends_ranged (λ c. H (limit a c)) (λ c. Done (h (limit a c))) (λ c. ends_done (h (limit a c))) 1 32767 (omega arith))) 0 63 (omega arith))) (codes "limit")))
      (λ y ws g. let n = g.2 in let m = n.5 in
      (limit n.0 m.0, m.5.0, (n.0, m.0, refl, n.4, m.3, m.4, g.1 ∙ ap (λ z. name (codes "limit") ∷ z) (n.2 ∙ ap (λ z. spelling (decimal n.0) ∷ z) (m.2 ∙ ap (λ z. spelling (decimal m.0) ∷ z) m.5.1)))))
      (λ y ws g. let n = g.2 in (spelling (decimal n.0) ∷ spelling (decimal n.1) ∷ [], n.6, (n.0, spelling (decimal n.1) ∷ [], refl, omega arith, n.3, (n.1, [], refl, n.4, n.5, (g.1 ∙ ap h n.2, refl)))))

  ends_fir : Ends (fir_form >>= H) (Of FirRest)
  ends_fir =
      ends_to (Of FirRest)
      (ends_assoc (keyword (codes "fir")) (λ _. count_form >>= (λ n. taps_form 0 n no_taps_yet >>= (λ taps. give (fir taps n)))) H _
      (ends_keyword _ _ (ends_assoc count_form (λ n. taps_form 0 n no_taps_yet >>= (λ taps. give (fir taps n))) H _
      (ends_count (λ n. (taps_form 0 n no_taps_yet >>= (λ taps. give (fir taps n))) >>= H)
      (λ n. SomeTaps (λ t. H (fir t n)) (λ t. Done (h (fir t n))) (λ t. ends_done (h (fir t n))) 0 n no_taps_yet)
      (λ n. ends_assoc (taps_form 0 n no_taps_yet) (λ taps. give (fir taps n)) H _ (ends_taps (λ t. H (fir t n)) (λ t. Done (h (fir t n))) (λ t. ends_done (h (fir t n))) n 0 no_taps_yet)))) (codes "fir")))
      (λ y ws g. let n = g.2 in let m = n.5 in (
        fir (put_from 0 m.0 no_taps_yet) (length m.0),
        m.5.0 ∙ ap (λ k. h (fir (put_from 0 m.0 no_taps_yet) k)) (sym m.2),
        (
          m.0,
          refl,
          subst (λ k. k ≤ 31) (sym m.2) n.3,
          subst (λ k. k % 2 ≡ 1) (sym m.2) n.4,
          m.3,
          g.1 ∙ ap (λ z. name (codes "fir") ∷ z) (n.2 ∙ ap₂ (λ k z. spelling (decimal k) ∷ z) (sym m.2) (m.4 ∙ ap (λ z. gains m.0 ++ z) m.5.1 ∙ append-nil (gains m.0))),
        ),
      ))
      (λ y ws g. let n = g.2 in
      (spelling (decimal (length n.0)) ∷ gains n.0, n.5, (length n.0, gains n.0, refl, n.2, n.3, (n.0, [], refl, n.4, sym (append-nil (gains n.0)), (g.1 ∙ ap h n.1, refl)))))

  pub ends_kind : (s : ℕ) → Ends (kind_form s >>= H) (Of (KindRest s))
  ends_kind s = go (ltb s 2) (ltb s 4) (ltb s 6)
    where
      go : (a b c : Bool) → Ends (cond a fir_form (cond b limit_form (cond c pan_form delay_form)) >>= H) (Of (λ e ws. MatchBool a (FirRest e ws) (MatchBool b (LimitRest e ws) (MatchBool c (PanRest e ws) (DelayRest e ws)))))
      go true b c = ends_fir
      go false true c = ends_limit
      go false false true = ends_pan
      go false false false = ends_delay

-- `S KIND ..`
abbrev pub UnitRest : Contents → Contents → List Spelling → Type 0
UnitRest c d ws = (s : ℕ) × (e : Effect) × (d ≡ with_unit c s e) × (s ≤ 7) × (not (is_set c s) ≡ true) × (vs : List Spelling) × (ws ≡ spelling (decimal s) ∷ vs) × KindRest s e vs

pub ends_unit : (c : Contents) → Ends (unit_turn c) (UnitRest c)
ends_unit c =
    ends_to (UnitRest c)
    (ends_map (unit_form c) (λ u. with_unit c u.0 u.1) _
    (ends_numbered (λ s. kind_form s >>= (λ e. no_more >> give (s, e))) (λ s. Of (λ e. (s, e)) (KindRest s)) (λ s. ends_kind (λ e. (s, e)) s) c NewUnit))
    (λ d ws h. let n = h.2 in (n.0, n.5.0, h.1 ∙ ap (λ u. with_unit c u.0 u.1) n.5.1, n.3, n.4, n.1, n.2, n.5.2))
    (λ d ws h. ((h.0, h.1), h.2, (h.0, h.5, h.6, h.3, h.4, (h.1, refl, h.7))))

-- `S trim G` and `S bypass`
abbrev pub TrimRest : Contents → Contents → List Spelling → Type 0
TrimRest c d ws = (s : ℕ) × (g : ℤ) × (d ≡ with_trim c s g) × (s ≤ 7) × (is_set c s ≡ true) × (not (has_trim c s) ≡ true) × IsGain g × (ws ≡ spelling (decimal s) ∷ name (codes "trim") ∷ spelling (signed_decimal g) ∷ [])

abbrev pub BypassRest : Contents → Contents → List Spelling → Type 0
BypassRest c d ws = (s : ℕ) × (d ≡ with_bypass c s) × (s ≤ 7) × (is_set c s ≡ true) × (not (has_bypass c s) ≡ true) × (ws ≡ spelling (decimal s) ∷ name (codes "bypass") ∷ [])

abbrev pub LayerRest : Contents → Contents → List Spelling → Type 0
LayerRest c d ws = TrimRest c d ws ⊎ BypassRest c d ws

module _ (c : Contents) (s : ℕ) where
  abbrev ATrim : Contents → List Spelling → Type 0
  ATrim y vs = (not (has_trim c s) ≡ true) × AGain (λ g. no_more >> give (with_trim c s g)) (λ g. Done (with_trim c s g)) (λ g. ends_done (with_trim c s g)) y vs

  abbrev ABypass : Contents → List Spelling → Type 0
  ABypass y vs = (not (has_bypass c s) ≡ true) × Done (with_bypass c s) y vs

  abbrev Given : Spelling → Contents → List Spelling → Type 0
  Given w y vs = MatchBool (is_name (codes "trim") w) (ATrim y vs) (MatchBool (is_name (codes "bypass") w) (ABypass y vs) ⊥)

  ends_given : (w : Item) → Ends (given_layer c s w) (Given w.word)
  ends_given w =
      ends_cond (is_name (codes "trim") w.word) (trim_form c s w) _ ATrim _
      (ends_ask (not (has_trim c s)) (Fit w.place) _ _ (ends_gain (λ g. no_more >> give (with_trim c s g)) (λ g. Done (with_trim c s g)) (λ g. ends_done (with_trim c s g))))
      (ends_cond (is_name (codes "bypass") w.word) (bypass_form c s w) (refuse (Form w.place)) ABypass (λ y vs. ⊥)
      (ends_ask (not (has_bypass c s)) (Fit w.place) _ _ (ends_done (with_bypass c s))) (ends_none (Form w.place)))

  layered : (d : Contents) (ws : List Spelling) (vs : List Spelling) → ws ≡ spelling (decimal s) ∷ vs → s ≤ 7 → is_set c s ≡ true → Head Given d vs → LayerRest c d ws
  layered d ws vs e few st (w, us, e₂, g) =
      ⊎_elim
      (λ t. let p = when_true _ _ t g in inl (
        s,
        p.1.0,
        p.1.4.0,
        few,
        st,
        p.0,
        p.1.3,
        e ∙ ap (λ z. spelling (decimal s) ∷ z) (e₂ ∙ ap₂ ◌∷◌ (name_sound (codes "trim") w t) (p.1.2 ∙ ap (λ z. spelling (signed_decimal p.1.0) ∷ z) p.1.4.1)),
      ))
      (λ f. ⊎_elim
      (λ t. let p = when_true _ _ t (when_false _ _ f g) in inr (s, p.1.0, few, st, p.0, e ∙ ap (λ z. spelling (decimal s) ∷ z) (e₂ ∙ ap₂ ◌∷◌ (name_sound (codes "bypass") w t) p.1.1)))
      (λ n. absurd (when_false _ _ n (when_false _ _ f g)))
      (cases_Bool (is_name (codes "bypass") w)))
      (cases_Bool (is_name (codes "trim") w))

pub ends_layer : (c : Contents) → Ends (layer_form c) (LayerRest c)
ends_layer c =
    ends_to (LayerRest c)
    (ends_numbered (λ s. word >>= given_layer c s) (λ s. Head (Given c s)) (λ s. ends_word (given_layer c s) (Given c s) (ends_given c s)) c SetUnit)
    (λ d ws h. layered c h.0 d ws h.1 h.2 h.3 h.4 h.5)
    (λ d ws h. ⊎_elim
    (λ t. (t.0, name (codes "trim") ∷ spelling (signed_decimal t.1) ∷ [], t.7, t.3, t.4, (name (codes "trim"), spelling (signed_decimal t.1) ∷ [], refl, (t.5, (t.1, [], refl, t.6, (t.2, refl))))))
    (λ t. (t.0, name (codes "bypass") ∷ [], t.5, t.2, t.3, (name (codes "bypass"), [], refl, (t.4, (t.1, refl))))) h)

-- `bus` and `track Q`
abbrev pub source_spelt : Source → List Spelling
source_spelt (Track q) = name (codes "track") ∷ spelling (decimal q) ∷ []
source_spelt Bus = name (codes "bus") ∷ []

module _ {Y : Type 0} (f : Source → Parse Y) (M : Source → Y → List Spelling → Type 0) (each : (s : Source) → Ends (f s) (M s)) where
  abbrev pub ASource : Y → List Spelling → Type 0
  ASource y ws = (s : Source) × (vs : List Spelling) × (ws ≡ source_spelt s ++ vs) × SourceRange s × M s y vs

  abbrev ATrack : Y → List Spelling → Type 0
  ATrack = ANumber (λ q. f (Track q)) (λ q. M (Track q)) (λ q. each (Track q)) 0 7

  abbrev RawSource : Spelling → Y → List Spelling → Type 0
  RawSource w y vs = MatchBool (is_name (codes "bus") w) (M Bus y vs) (MatchBool (is_name (codes "track") w) (ATrack y vs) ⊥)

  sourced : (y : Y) (ws : List Spelling) → Head RawSource y ws → ASource y ws
  sourced y ws (w, vs, e, g) =
      ⊎_elim (λ t. (Bus, vs, e ∙ ap (λ z. z ∷ vs) (name_sound (codes "bus") w t), tt, when_true _ _ t g))
      (λ n. ⊎_elim
      (λ t. let p = when_true _ _ t (when_false _ _ n g) in (Track p.0, p.1, e ∙ ap₂ ◌∷◌ (name_sound (codes "track") w t) p.2, p.4, p.5))
      (λ m. absurd (when_false _ _ m (when_false _ _ n g)))
      (cases_Bool (is_name (codes "track") w)))
      (cases_Bool (is_name (codes "bus") w))

  unsourced : (y : Y) (ws : List Spelling) (s : Source) (vs : List Spelling) → ws ≡ source_spelt s ++ vs → SourceRange s → M s y vs → Head RawSource y ws
  unsourced y ws (Track q) vs e r m = (name (codes "track"), spelling (decimal q) ∷ vs, e, (q, vs, refl, omega arith, r, m))
  unsourced y ws Bus vs e r m = (name (codes "bus"), vs, e, m)

  pub ends_source : Ends (source_form >>= f) ASource
  ends_source =
      ends_to ASource
      (ends_assoc word (λ w. cond (is_name (codes "bus") w.word) (give Bus) (cond (is_name (codes "track") w.word) (ranged 0 7 >>= (λ q. give (Track q))) (refuse (Form w.place)))) f _
      (ends_word _ RawSource (λ w. ends_cond_bind (is_name (codes "bus") w.word) (give Bus) _ f (M Bus) _ (each Bus)
      (ends_cond_bind (is_name (codes "track") w.word) (ranged 0 7 >>= (λ q. give (Track q))) (refuse (Form w.place)) f ATrack (λ y vs. ⊥)
      (ends_assoc (ranged 0 7) (λ q. give (Track q)) f _ (ends_ranged (λ q. f (Track q)) (λ q. M (Track q)) (λ q. each (Track q)) 0 7 (omega arith)))
      (ends_none (Form w.place))))))
      sourced (λ y ws h. unsourced y ws h.0 h.1 h.2 h.3 h.4)

-- ` unit S`, or nothing
abbrev pub unit_spelt : Option ℕ → List Spelling
unit_spelt None = []
unit_spelt (Some s) = name (codes "unit") ∷ spelling (decimal s) ∷ []

abbrev pub UnitOk : Contents → Option ℕ → Type 0
UnitOk c None = Unit {0}
UnitOk c (Some s) = (s ≤ 7) × (role_fits c FreeUnit s ≡ true)

abbrev pub AUnit : Contents → Option ℕ → List Spelling → Type 0
AUnit c u ws = UnitOk c u × (ws ≡ unit_spelt u)

module _ (c : Contents) where
  abbrev SomeUnit : Option ℕ → List Spelling → Type 0
  SomeUnit u ws = (s : ℕ) × (u ≡ Some s) × UnitOk c (Some s) × (ws ≡ unit_spelt (Some s))

  ends_some_unit : Ends (some_unit c) SomeUnit
  ends_some_unit =
      ends_to SomeUnit
      (ends_keyword _ _ (ends_numbered (λ s. no_more >> give (Some s)) (λ s. Done (Some s)) (λ s. ends_done (Some s)) c FreeUnit) (codes "unit"))
      (λ u ws h. let n = h.2 in (n.0, n.5.0, (n.3, n.4), h.1 ∙ ap (λ z. name (codes "unit") ∷ z) (n.2 ∙ ap (λ z. spelling (decimal n.0) ∷ z) n.5.1)))
      (λ u ws h. (spelling (decimal h.0) ∷ [], h.3, (h.0, [], refl, h.2.0, h.2.1, (h.1, refl))))

  pub ends_unit_part : Ends (unit_part c) (AUnit c)
  ends_unit_part = record { sound = λ k u k' h. sound k k.items refl u k' h; complete = λ k u h. complete k k.items refl u h }
    where
      as_some : (u : Option ℕ) (ws : List Spelling) → SomeUnit u ws → AUnit c u ws
      as_some u ws h = (subst (UnitOk c) (sym h.1) h.2, h.3 ∙ ap unit_spelt (sym h.1))

      sound : (k : Cursor) (is : List Item) → k.items ≡ is → (u : Option ℕ) (k' : Cursor) → unit_or_none c k is ≡ Ok (u, k') → AUnit c u (words_in is)
      sound k [] e u k' h = let n : None ≡ u = ok_is h in (subst (UnitOk c) n tt, ap unit_spelt n)
      sound k (w ∷ ws) e u k' h = subst (λ is. AUnit c u (words_in is)) e (as_some u _ (ends_some_unit.sound k u k' h))

      complete : (k : Cursor) (is : List Item) → k.items ≡ is → (u : Option ℕ) → AUnit c u (words_in is) → (k' : Cursor) × (unit_or_none c k is ≡ Ok (u, k'))
      complete k [] e None h = (k, refl)
      complete k [] e (Some s) h = absurd (nil_not h.1)
      complete k (w ∷ ws) e None h = absurd (nil_not (sym h.1))
      complete k (w ∷ ws) e (Some s) h = ends_some_unit.complete k (Some s) (s, refl, h.0, ap words_in e ∙ h.1)

-- `N bus` and `N track Q`, with a unit or without
abbrev pub NodeRest : Contents → Contents → List Spelling → Type 0
NodeRest c d ws = (v : ℕ) × (n : Node) × (d ≡ with_node c n) × (v ≤ 15) × (eqb v (length c.nodes) ≡ true) × SourceRange n.source × UnitOk c n.unit
    × (ws ≡ spelling (decimal v) ∷ (source_spelt n.source ++ unit_spelt n.unit))

pub ends_node : (c : Contents) → Ends (node_turn c) (NodeRest c)
ends_node c =
    ends_to (NodeRest c)
    (ends_map (node_form c) (with_node c) _
    (ends_numbered (λ _. source_form >>= (λ s. unit_part c >>= (λ u. give (record { source = s; unit = u })))) (λ _. ASource _ _ parts) (λ _. ends_source _ _ parts) c NextNode))
    (λ d ws h. let v = h.2 in let s = v.5 in let u = s.4 in (
      v.0,
      record { source = s.0; unit = u.0 },
      h.1 ∙ ap (with_node c) u.1,
      v.3,
      v.4,
      s.3,
      u.2.0,
      v.2 ∙ ap (λ z. spelling (decimal v.0) ∷ z) (s.2 ∙ ap (λ z. source_spelt s.0 ++ z) u.2.1),
    ))
    (λ d ws h. (h.1, h.2, (h.0, source_spelt h.1.source ++ unit_spelt h.1.unit, h.7, h.3, h.4, (h.1.source, unit_spelt h.1.unit, refl, h.5, (h.1.unit, refl, (h.6, refl))))))
  where
    parts : (s : Source) → Ends (unit_part c >>= (λ u. give (record { source = s; unit = u }))) (λ (n : Node) ws. (u : Option ℕ) × (n ≡ record { source = s; unit = u }) × AUnit c u ws)
    parts s = ends_map (unit_part c) (λ u. record { source = s; unit = u }) (AUnit c) (ends_unit_part c)

-- `A B G`
abbrev pub LinkRest : Contents → Contents → List Spelling → Type 0
LinkRest c d ws = (l : Line) × (d ≡ with_line c l) × (ltb (length c.lines) 48 ≡ true) × (l.start ≤ 15) × (ltb l.start (length c.nodes) ≡ true) × (l.end ≤ 15) × (bus_at c l.end ≡ true) × IsGain l.gain
    × (ws ≡ spelling (decimal l.start) ∷ spelling (decimal l.end) ∷ spelling (signed_decimal l.gain) ∷ [])

pub ends_link : (c : Contents) (w : Item) → Ends (line_turn c w) (LinkRest c)
ends_link c w =
    ends_to (LinkRest c)
    (ends_map (line_form c w) (with_line c) _
    (ends_ask (ltb (length c.lines) 48) (Full w.place) (joined_form c) _
    (ends_numbered (λ a. numbered c BusNode >>= (λ b. gain_word >>= (λ g. no_more >> give (record { start = a; end = b; gain = g }))))
    (λ a. ANumbered (λ b. gain_word >>= (λ g. no_more >> give (record { start = a; end = b; gain = g }))) (λ b. AGain _ _ (last a b)) (λ b. ends_gain _ _ (last a b)) c BusNode)
    (λ a. ends_numbered (λ b. gain_word >>= (λ g. no_more >> give (record { start = a; end = b; gain = g }))) (λ b. AGain _ _ (last a b)) (λ b. ends_gain _ _ (last a b)) c BusNode) c AnyNode)))
    (λ d ws h. let a = h.2.1 in let b = a.5 in let g = b.5 in (
      record { start = a.0; end = b.0; gain = g.0 },
      h.1 ∙ ap (with_line c) g.4.0,
      h.2.0,
      a.3,
      a.4,
      b.3,
      b.4,
      g.3,
      a.2 ∙ ap (λ z. spelling (decimal a.0) ∷ z) (b.2 ∙ ap (λ z. spelling (decimal b.0) ∷ z) (g.2 ∙ ap (λ z. spelling (signed_decimal g.0) ∷ z) g.4.1)),
    ))
    (λ d ws h. let l = h.0 in
    (l, h.1, (h.2, (l.start, _, h.8, h.3, h.4, (l.end, _, refl, h.5, h.6, (l.gain, [], refl, h.7, (refl, refl)))))))
  where
    last : (a b : ℕ) (g : ℤ) → Ends (no_more >> give (record { start = a; end = b; gain = g })) (Done {Y = Line} (record { start = a; end = b; gain = g }))
    last a b g = ends_done (record { start = a; end = b; gain = g })
