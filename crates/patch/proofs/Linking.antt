-- Numbers that name the next one, and lines that are linked so.
use Rattle.std.proofs.Common.{◌≡◌, ℕ, zero, suc, ◌+◌, ◌-◌, ◌<◌, ◌≤◌, Bool, cond, eqb, List, [], ◌∷◌, length, get_or, set, replicate, Some, None, filter, Option, sym, ap, ◌∙◌, subst, inl, inr, arith}
use Rattle.patch.specs.Inputs.{Arranges, Links, first_into, next_after}
use Rattle.patch.specs.Placing.{plan_of}
use Rattle.patch.specs.Sweeps.{Fit}
use Rattle.patch.specs.declared.inputs.Inputs.{Inputs}
use Rattle.session.specs.Plan.{Plan, line}
use Rattle.session.specs.declared.nodes.Line.{Line}
use Rattle.std.proofs.ByRecursion.{All-weaker}
use Rattle.std.proofs.lemmas.List.{get_or_past, get_or-replicate, get_or-set_other, get_or-set_same}
use Rattle.std.proofs.lemmas.Option.{none-some}
use Rattle.std.proofs.lemmas.Bool.{cases_eq, cases_lt, cond_both, eqb-false, eqb-true}
use Rattle.std.specs.List.{range_with_len, AllByRecursion}

same_some : (i j : ℕ) → Some i ≡ Some j → i ≡ j
same_some i j e = cc

-- Where a number stands, the linked numbers begin with it, and the others are linked from the next on.
pub links_on : (next : ℕ → Option ℕ) (P : ℕ → Type 0) (i : ℕ) (is : List ℕ) → Links next (Some i) is → AllByRecursion P is
    → (js : List ℕ) × (is ≡ i ∷ js) × Links next (next i) js × P i × AllByRecursion P js
links_on next P i [] h all = absurd (none-some i (sym h))
links_on next P i (j ∷ js) h all =
    let e = same_some i j h.0 in
    (js, ap (λ k. k ∷ js) (sym e), subst (λ k. Links next (next k) js) (sym e) h.1, subst P (sym e) all.0, all.1)

abbrev pub at_number : List (Option ℕ) → ℕ → Option ℕ
at_number next i = get_or next i None

-- A number below all others may name another.
links_other : (next : List (Option ℕ)) (i : ℕ) (x at : Option ℕ) (js : List ℕ) → AllByRecursion (λ j. (i < j) × (j < 48)) js → Links (at_number next) at js → Links (at_number (set next i x)) at js
links_other next i x at [] all h = h
links_other next i x at (j ∷ js) all h = (
  h.0,
  subst (λ k. Links (at_number (set next i x)) k js) (sym (get_or-set_other next i j x None (λ e. omega (arith, all.0.0))))
      (links_other next i x (get_or next j None) js all.1 h.1),
)

-- Of m lines from line i on, those that end at v.
abbrev pub last_lines : Plan → ℕ → ℕ → ℕ → List ℕ
last_lines p v i m = filter (λ j. eqb (line p j).end v) (range_with_len i m)

from_first : (test : ℕ → Bool) (a m : ℕ) → AllByRecursion (λ j. (a ≤ j) × (j < a + m)) (filter test (range_with_len a m))
from_first test a zero = tt
from_first test a (suc m) =
    let rest = All-weaker (λ j. (a + 1 ≤ j) × (j < a + 1 + m)) (λ j. (a ≤ j) × (j < a + suc m)) (λ j h. (omega (arith, h.0), omega (arith, h.1)))
    (filter test (range_with_len (a + 1) m)) (from_first test (a + 1) m) in
    cond_both (test a) (a ∷ filter test (range_with_len (a + 1) m)) (filter test (range_with_len (a + 1) m)) (AllByRecursion (λ j. (a ≤ j) × (j < a + suc m)))
    (λ _. ((omega arith, omega arith), rest)) (λ _. rest)

-- All lines from line i on are linked.
abbrev pub Linked : List Line → List (Option ℕ) → List (Option ℕ) → ℕ → Type 0
Linked lines first next i = (v : ℕ) → v < 16 → Links (at_number next) (get_or first v None) (last_lines (plan_of [] lines) v i (length lines - i))

abbrev pub Rises : List (Option ℕ) → Type 0
Rises next = (i j : ℕ) → get_or next i None ≡ Some j → (i < j) × (j < 48)

module _ (lines : List Line) (fit : Fit lines) (first next : List (Option ℕ)) (i : ℕ) (inside : i < length lines)
    (sixteen : length first ≡ 16) (most : length next ≡ 48) (linked : Linked lines first next (i + 1)) where
  end : ℕ
  end = (line (plan_of [] lines) i).end

  later : (v : ℕ) → last_lines (plan_of [] lines) v i (length lines - i)
      ≡ cond (eqb (line (plan_of [] lines) i).end v) (i ∷ last_lines (plan_of [] lines) v (i + 1) (length lines - (i + 1))) (last_lines (plan_of [] lines) v (i + 1) (length lines - (i + 1)))
  later v =
      let one : length lines - i ≡ suc (length lines - (i + 1)) = omega arith in
      ap (last_lines (plan_of [] lines) v i) one

  above : (v : ℕ) → AllByRecursion (λ j. (i < j) × (j < 48)) (last_lines (plan_of [] lines) v (i + 1) (length lines - (i + 1)))
  above v =
      All-weaker (λ j. (i + 1 ≤ j) × (j < i + 1 + (length lines - (i + 1)))) (λ j. (i < j) × (j < 48)) (λ j h. (omega (arith, h.0), omega (arith, h.1, fit.few)))
      (last_lines (plan_of [] lines) v (i + 1) (length lines - (i + 1)))
      (from_first (λ j. eqb (line (plan_of [] lines) j).end v) (i + 1) (length lines - (i + 1)))

  pub rises_on : Rises next → Rises (set next i (get_or first (line (plan_of [] lines) i).end None))
  rises_on rises j k e =
      elim (cases_eq i j) [
        | inl same ↦
            let here : get_or first (line (plan_of [] lines) i).end None ≡ Some k =
            sym (get_or-set_same next i (get_or first (line (plan_of [] lines) i).end None) None (omega (arith, fit.few)))
            ∙ (ap (λ j. get_or (set next i (get_or first (line (plan_of [] lines) i).end None)) j None) same ∙ e) in
            let on = links_on (at_number next) (λ j. (i < j) × (j < 48)) k (last_lines (plan_of [] lines) (line (plan_of [] lines) i).end (i + 1) (length lines - (i + 1)))
            (subst (λ at. Links (at_number next) at (last_lines (plan_of [] lines) (line (plan_of [] lines) i).end (i + 1) (length lines - (i + 1)))) here
            (linked (line (plan_of [] lines) i).end (fit.ends i inside)))
            (above (line (plan_of [] lines) i).end) in
            (omega (arith, on.3.0), on.3.1)
        | inr ne ↦ rises j k (sym (get_or-set_other next i j (get_or first (line (plan_of [] lines) i).end None) None (λ e. ne (sym e))) ∙ e)
      ]

  pub links_more : Linked lines (set first (line (plan_of [] lines) i).end (Some i)) (set next i (get_or first (line (plan_of [] lines) i).end None)) i
  links_more v b =
      let e = (line (plan_of [] lines) i).end in
      let x = get_or first e None in
      let rest = last_lines (plan_of [] lines) v (i + 1) (length lines - (i + 1)) in
      let kept = links_other next i x (get_or first v None) rest (above v) (linked v b) in
      subst (Links (at_number (set next i x)) (get_or (set first e (Some i)) v None)) (sym (later v))
      (cond_both (eqb e v) (i ∷ rest) rest (Links (at_number (set next i x)) (get_or (set first e (Some i)) v None))
      (λ t.
      let same = eqb-true e v t in (
        ap (λ u. get_or (set first e (Some i)) u None) (sym same) ∙ get_or-set_same first e (Some i) None (omega (arith, fit.ends i inside)),
        subst (λ at. Links (at_number (set next i x)) at rest)
            (ap (λ u. get_or first u None) (sym same) ∙ sym (get_or-set_same next i x None (omega (arith, fit.few)))) kept,
      ))
      (λ f.
      subst (λ at. Links (at_number (set next i x)) at rest)
      (sym (get_or-set_other first e v (Some i) None (λ u. eqb-false e v f (sym u)))) kept))

-- At first nothing is linked.
pub none_linked : (lines : List Line) → Linked lines (replicate 16 None) (replicate 48 None) (length lines)
none_linked lines v b =
    let none : length lines - length lines ≡ 0 = omega arith in
    subst (λ m. Links (at_number (replicate 48 None)) (get_or (replicate 16 None) v None) (last_lines (plan_of [] lines) v (length lines) m)) (sym none)
    (get_or-replicate 16 v None None b)

pub none_rises : Rises (replicate 48 None)
none_rises i j e =
    elim (cases_lt i 48) [
      | inl l ↦ absurd (none-some j (sym (get_or-replicate 48 i None None l) ∙ e))
      | inr l ↦ absurd (none-some j (sym (get_or_past (replicate 48 None) i None l) ∙ e))
    ]

-- At last all lines are.
pub all_linked : (lines : List Line) (r : Inputs) → length r.first ≡ 16 → length r.next ≡ 48 → Linked lines r.first r.next 0 → Arranges lines r
all_linked lines r sixteen most linked =
    let whole : length lines - 0 ≡ length lines = omega arith in
    record {
      sixteen = sixteen;
      most = most;
      linked = λ v b.
          subst (λ m. Links (next_after r) (first_into r v) (last_lines (plan_of [] lines) v 0 m)) whole (linked v b);
      rising = λ i j l e. (r.rises i j e).0;
    }
