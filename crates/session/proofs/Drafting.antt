-- What is added to a draft keeps the rules.
use mathlib.Core.Logic.{∥∥₁_map}
use Rattle.std.proofs.Common.{◌≡◌, ℕ, zero, suc, ◌+◌, ◌<◌, ◌≤◌, Bool, true, false, cond, not, List, [], ◌∷◌, ◌++◌, map, length, get_or, set, replicate, ℤ, is_some, Some, None, Option, sym, refl, ap, ◌∙◌, subst, ap₂, inr, ⊎_elim, arith}
use Rattle.session.proofs.Entries.{fits_below, set_below}
use Rattle.session.specs.Contents.{bare, bus_at, contents, effect, entry, fits_unit, free, is_set, names_unit, used}
use Rattle.session.specs.Held.{Held, LawfulSession, nothing, setting, suits, unset}
use Rattle.session.specs.Lawful.{LawfulDraft}
use Rattle.session.specs.Plan.{KeepsRules, Plan, is_bus, line, node}
use Rattle.session.specs.declared.nodes.Line.{Line}
use Rattle.session.specs.declared.nodes.Node.{Node}
use Rattle.session.specs.declared.nodes.Source.TheVariants.{Bus}
use Rattle.session.specs.declared.settings.Kind.{Kind}
use Rattle.session.specs.declared.settings.Kind.TheVariants.{Fir, Limit, Pan, Delay}
use Rattle.session.specs.declared.settings.Setting.{Setting}
use Rattle.std.proofs.lemmas.Option.{same_Some}
use Rattle.std.proofs.lemmas.List.{get_or_append_left, get_or_default, get_or_past, get_or_push, get_or-replicate, get_or-set_other, get_or-set_same, length-set, length_push}
use Rattle.std.proofs.lemmas.Bool.{and_parts, both_ways, cases_eq, cases_lt, eq-eqb, ltb-true, not-true, or_parts}

-- a kind and its plain numbers are for the same units
same_units : (s : ℕ) (k : Kind) → fits_unit s (effect k) ≡ suits s k
same_units s (Fir k) = refl
same_units s (Limit k) = refl
same_units s (Pan k) = refl
same_units s (Delay k) = refl

-- a unit that no node is found to have is no node's
not_used : (ns : List Node) (d : Node) (s v : ℕ) → used ns s ≡ false → v < length ns → (get_or ns v d).unit ≡ Some s → ⊥
not_used [] d s v h l e = omega arith
not_used (n ∷ ns) d s zero h l e = both_ways _ (or_parts _ _ h).0 (ap (names_unit s) e ∙ eq-eqb s s refl)
not_used (n ∷ ns) d s (suc v) h l e = not_used ns d s v (or_parts _ _ h).1 (omega arith) e

-- what holds of every element and of one more
pushed_all : {X : Type 0} (P : X → Type 0) (xs : List X) (y d : X) → ((i : ℕ) → i < length xs → P (get_or xs i d)) → P y → (i : ℕ) → i < length (xs ++ y ∷ []) → P (get_or (xs ++ y ∷ []) i d)
pushed_all P xs y d all one i h =
    let l : i < length xs + 1 = rw length_push at h in
    ⊎_elim (λ lt. rw (get_or_append_left xs (y ∷ []) d i lt) (all i lt))
    (λ ge. let e : length xs ≡ i = omega arith in rw (get_or_push xs y d i e) one) (cases_lt i (length xs))

module _ (p : Plan) (r : KeepsRules p) where
  module _ (n : Node) (few : length p.nodes < 16) (unused : (s : ℕ) → n.unit ≡ Some s → used p.nodes s ≡ false) where
    old_node : (v : ℕ) → v < length p.nodes → get_or (p.nodes ++ n ∷ []) v (record { source = Bus; unit = None }) ≡ node p v
    old_node v h = get_or_append_left p.nodes (n ∷ []) _ v h

    one_of : (v w s : ℕ) → v < length (p.nodes ++ n ∷ []) → w < length (p.nodes ++ n ∷ []) → (get_or (p.nodes ++ n ∷ []) v (record { source = Bus; unit = None })).unit ≡ Some s → (get_or (p.nodes ++ n ∷ []) w (record { source = Bus; unit = None })).unit ≡ Some s → v ≡ w
    one_of v w s lv lw ev ew =
        let lv' : v < length p.nodes + 1 = rw length_push at lv in
        let lw' : w < length p.nodes + 1 = rw length_push at lw in
        ⊎_elim
        (λ v<. ⊎_elim (λ w<. r.one_node v w s v< w< (ap (λ m. m.unit) (sym (old_node v v<)) ∙ ev) (ap (λ m. m.unit) (sym (old_node w w<)) ∙ ew)) (λ w≥. absurd (clash v w v< (omega arith) ev ew)) (cases_lt w (length p.nodes)))
        (λ v≥. ⊎_elim (λ w<. absurd (clash w v w< (omega arith) ew ev)) (λ w≥. omega arith) (cases_lt w (length p.nodes)))
        (cases_lt v (length p.nodes))
      where
        clash : (a b : ℕ) → a < length p.nodes → length p.nodes ≡ b → (get_or (p.nodes ++ n ∷ []) a (record { source = Bus; unit = None })).unit ≡ Some s → (get_or (p.nodes ++ n ∷ []) b (record { source = Bus; unit = None })).unit ≡ Some s → ⊥
        clash a b a< b= ea eb =
            not_used p.nodes (record { source = Bus; unit = None }) s a (unused s (ap (λ m. m.unit) (sym (get_or_push p.nodes n _ b b=)) ∙ eb)) a< (ap (λ m. m.unit) (sym (old_node a a<)) ∙ ea)

    keeps_node : KeepsRules (record { nodes = p.nodes ++ n ∷ []; lines = p.lines })
    keeps_node = record {
      few_nodes = rw length_push (omega arith);
      few_lines = r.few_lines;
      starts = λ i h. let s = r.starts i h in rw length_push (omega arith);
      ends = λ i h. let s = r.ends i h in rw length_push (omega arith);
      ends_at_bus = λ i h. ap (λ m. is_bus m.source) (old_node (line p i).end (r.ends i h)) ∙ r.ends_at_bus i h;
      one_node = one_of;
    }

  keeps_line : (l : Line) → length p.lines < 48 → l.start < length p.nodes → l.end < length p.nodes → is_bus (node p l.end).source ≡ true
      → KeepsRules (record { nodes = p.nodes; lines = p.lines ++ l ∷ [] })
  keeps_line l few s e b = record {
    few_nodes = r.few_nodes;
    few_lines = rw length_push (omega arith);
    starts = pushed_all (λ x. x.start < length p.nodes) p.lines l _ r.starts s;
    ends = pushed_all (λ x. x.end < length p.nodes) p.lines l _ r.ends e;
    ends_at_bus = pushed_all (λ x. is_bus (node p x.end).source ≡ true) p.lines l _ r.ends_at_bus b;
    one_node = r.one_node;
  }

abbrev Suited : List Setting → Type 0
Suited es = (s : ℕ) (k : Kind) → (setting es s).kind ≡ Some k → suits s k ≡ true

-- one entry changed to one that suits
suited_set : (es : List Setting) (s : ℕ) (e : Setting) → s < length es → Suited es → ((k : Kind) → e.kind ≡ Some k → suits s k ≡ true) → Suited (set es s e)
suited_set es s e l all one t k h =
    ⊎_elim (λ same. subst (λ x. suits x k ≡ true) (sym same) (one k (ap (λ x. x.kind) (sym (ap (λ x. get_or (set es s e) x unset) same ∙ get_or-set_same es s e unset l)) ∙ h)))
    (λ other. all t k (ap (λ x. x.kind) (sym (get_or-set_other es s t e unset other)) ∙ h)) (cases_eq t s)

-- a draft with other nodes or lines
other_plan : (h : Held) (p : Plan) → LawfulDraft h → KeepsRules p → LawfulDraft (record { rate = h.rate; plan = p; settings = h.settings })
other_plan h p r k = record { least_rate = r.least_rate; most_rate = r.most_rate; keeps = k; suited = r.suited }

-- a draft by its parts
abbrev pub parts : ℕ → List Node → List Line → List Setting → Held
parts r ns ls es = record { rate = r; plan = record { nodes = ns; lines = ls }; settings = es }

module _ (r : ℕ) (ns : List Node) (ls : List Line) (es : List Setting) (l : ∥ LawfulDraft (parts r ns ls es) ∥₁) where
  pub lawful_rate : (n : ℕ) → 8000 ≤ n → n ≤ 192000 → ∥ LawfulDraft (parts n ns ls es) ∥₁
  lawful_rate n a b = ∥∥₁_map l (λ k. record { least_rate = λ _. a; most_rate = b; keeps = k.keeps; suited = k.suited })

  pub lawful_node : (n : Node) (added : Bool) (ms : List Node) → length ns < 16 → free (contents (parts r ns ls es)) n.unit ≡ true
      → ms ≡ cond added (ns ++ n ∷ []) ns → ∥ LawfulDraft (parts r ms ls es) ∥₁
  lawful_node n added ms few f e = ∥∥₁_map l (λ k. other_plan _ _ k (subst (λ m. KeepsRules (record { nodes = m; lines = ls })) (sym e) (either k.keeps added)))
    where
      unused : (s : ℕ) → n.unit ≡ Some s → used ns s ≡ false
      unused s q = not-true (used ns s) (and_parts (is_set (contents (parts r ns ls es)) s) (not (used ns s)) (ap (free (contents (parts r ns ls es))) (sym q) ∙ f)).1

      either : KeepsRules (record { nodes = ns; lines = ls }) → (b : Bool) → KeepsRules (record { nodes = cond b (ns ++ n ∷ []) ns; lines = ls })
      either k true = keeps_node _ k n few unused
      either k false = k

  pub lawful_line : (x : Line) (added : Bool) (ms : List Line) → length ls < 48 → x.start < length ns
      → bus_at (contents (parts r ns ls es)) x.end ≡ true
      → ms ≡ cond added (ls ++ x ∷ []) ls → ∥ LawfulDraft (parts r ns ms es) ∥₁
  lawful_line x added ms few s f e = ∥∥₁_map l (λ k. other_plan _ _ k (subst (λ m. KeepsRules (record { nodes = ns; lines = m })) (sym e) (either k.keeps added)))
    where
      either : KeepsRules (record { nodes = ns; lines = ls }) → (b : Bool) → KeepsRules (record { nodes = ns; lines = cond b (ls ++ x ∷ []) ls })
      either k true = keeps_line _ k x few s (ltb-true _ _ (and_parts _ _ f).0) (and_parts _ _ f).1
      either k false = k

-- one entry written
pub still_eight : (es : List Setting) (i : ℕ) (x : Setting) → length es ≡ 8 → length (set es i x) ≡ 8
still_eight es i x e = length-set es i x ∙ e

module _ (r : ℕ) (ns : List Node) (ls : List Line) (es : List Setting) (l : ∥ LawfulDraft (parts r ns ls es) ∥₁) (i s : ℕ) (e : i ≡ s) (eight : length es ≡ 8) where
  written : i < 8 → (x : Setting) → ((k : Kind) → Suited es → x.kind ≡ Some k → suits i k ≡ true) → ∥ LawfulDraft (parts r ns ls (set es i x)) ∥₁
  written b x f = ∥∥₁_map l (λ d. record { least_rate = d.least_rate; most_rate = d.most_rate; keeps = d.keeps; suited = suited_set es i x (omega arith) d.suited (λ k q. f k d.suited q) })

  pub lawful_kind : (k : Kind) (t : Option ℤ) (b : Bool) → fits_unit s (effect k) ≡ true → ∥ LawfulDraft (parts r ns ls (set es i (record { kind = Some k; trim = t; bypass = b }))) ∥₁
  lawful_kind k t b f =
      let u = fits_below s (effect k) f in
      written (omega arith) _ (λ m a q. subst (λ y. suits i y ≡ true) (same_Some k m q) (ap (λ j. suits j k) e ∙ sym (same_units s k) ∙ f))

  pub lawful_layer : (d : Setting) (t : Option ℤ) (b : Bool) → is_some (get_or (map entry es) s bare).set_to ≡ true
      → ∥ LawfulDraft (parts r ns ls (set es i (record { kind = (get_or es i d).kind; trim = t; bypass = b }))) ∥₁
  lawful_layer d t b f =
      let u = set_below es s eight f in
      written (omega arith) _ (λ k a q. a i k (ap (λ y. y.kind) (get_or_default es i unset d (omega arith)) ∙ q))

pub lawful_full : (h : Held) → ∥ LawfulDraft h ∥₁ → 0 < h.rate → 1 ≤ length h.plan.nodes → length h.settings ≡ 8 → ∥ LawfulSession h ∥₁
lawful_full h l a b e =
    ∥∥₁_map l (λ r. inr (record { least_rate = r.least_rate a; most_rate = r.most_rate; some_node = b; keeps = r.keeps; eight = e; suited = r.suited }))

unset_at : (s : ℕ) → get_or (replicate 8 unset) s unset ≡ unset
unset_at s = ⊎_elim (λ l. get_or-replicate 8 s unset unset l) (λ g. get_or_past (replicate 8 unset) s unset g) (cases_lt s 8)

unset_not : (s : ℕ) (k : Kind) → (setting (replicate 8 unset) s).kind ≡ Some k → ⊥
unset_not s k h = let e : ◌≡◌ {A = Option Kind} None (Some k) = ap (λ x. x.kind) (sym (unset_at s)) ∙ h in let z : ◌≡◌ {A = ℕ} 0 1 = cc in omega arith

-- a draft that holds nothing
draft_nothing : LawfulDraft nothing
draft_nothing = record {
  least_rate = λ h. omega arith;
  most_rate = omega arith;
  keeps = record {
    few_nodes = omega arith;
    few_lines = omega arith;
    starts = λ i h. omega arith;
    ends = λ i h. omega arith;
    ends_at_bus = λ i h. absurd (omega arith);
    one_node = λ v w s h. absurd (omega arith);
  };
  suited = λ s k h. absurd (unset_not s k h);
}

pub lawful_empty : (ns : List Node) (ls : List Line) → ns ≡ [] → ls ≡ [] → ∥ LawfulDraft (record { rate = 0; plan = record { nodes = ns; lines = ls }; settings = replicate 8 unset }) ∥₁
lawful_empty ns ls e f = ∣ subst LawfulDraft (sym (ap₂ (λ n l. record { rate = 0; plan = record { nodes = n; lines = l }; settings = replicate 8 unset }) e f)) draft_nothing ∣₁
