use Rattle.std.proofs.Common.{rules, ◌≡◌, ℕ, ◌+◌, ◌<◌, List, [], ◌∷◌, ◌++◌, length, get_or, set, replicate, pos, Some, None, sym, refl, ap, ◌∙◌, subst, subst₂, arith}
use Rattle.patch.proofs.Linking.{Linked, Rises, all_linked, links_more, none_linked, none_rises, rises_on}
use Rattle.patch.proofs.inputs.arranging.arrange.Goals as goal
use Rattle.patch.specs.Placing.{plan_of}
use Rattle.session.specs.Plan.{line}
use Rattle.session.specs.declared.nodes.Line.{Line}
use Rattle.std.proofs.lemmas.List.{get_or_append_left, get_or_push, length-set, length_push}

-- What is left of the lines are the first of them, before and after the last one is taken.
fronts : (lines ys : List Line) (x : Line) → ((j : ℕ) → j < length (ys ++ x ∷ []) → line (plan_of [] (ys ++ x ∷ [])) j ≡ line (plan_of [] lines) j)
    → ((j : ℕ) → j < length ys → line (plan_of [] ys) j ≡ line (plan_of [] lines) j) × (x ≡ line (plan_of [] lines) (length ys))
fronts lines ys x h = (
  (λ j l. sym (get_or_append_left ys (x ∷ []) (record { start = 0; end = 0; gain = pos 0 }) j l) ∙ h j (omega (arith, length_push ys x))),
  sym (get_or_push ys x (record { start = 0; end = 0; gain = pos 0 }) (length ys) refl) ∙ h (length ys) (omega (arith, length_push ys x)),
)

pub loop-i-init : goal.loop-i-init
loop-i-init c =
    let lines = c.args.lines.now in
    let all : c.into_iter-i-iterator.result.iter.iter.rest.now ≡ lines = search rules in
    let none : c.into_iter-i-iterator.result.iter.count ≡ 0 = search rules in (
      none,
      omega (arith, ap length all),
      subst (λ (left : List Line). (j : ℕ) → j < length left → line (plan_of [] left) j ≡ line (plan_of [] lines) j) (sym all) (λ j l. refl),
      refl,
      refl,
      subst (λ left. Linked lines (replicate 16 None) (replicate 48 None) (length left)) (sym all) (none_linked lines),
      none_rises,
    )

pub loop-i-preserved : goal.loop-i-preserved
loop-i-preserved c =
    let lines = c.args.lines.now in
    let first = c.loop-i.first in
    let next = c.loop-i.next in
    let inv = c.loop-i.invariant in
    let step = c.in-Some.ensures.steps in
    let left = c.next.new.self.iter.iter.rest.now in
    let front = fronts lines left c.in-Some.line.now
    (subst (λ (left : List Line). (j : ℕ) → j < length left → line (plan_of [] left) j ≡ line (plan_of [] lines) j) step.1.0 inv.2) in
    let long : length c.loop-i.i-iterator.iter.iter.rest.now ≡ length left + 1 = ap length step.1.0 ∙ length_push left c.in-Some.line.now in
    let i = length left in
    let inside : i < length lines = omega (arith, inv.1) in
    let at : c.in-Some.i ≡ i = omega (arith, step.1.1, inv.0) in
    let end : c.from-end.result ≡ (line (plan_of [] lines) i).end = c.from-end.ensures ∙ ap (λ (l : Line). l.end) front.1 in
    let linked : Linked lines first next (i + 1) = subst (Linked lines first next) long inv.5 in
    let more = subst₂ (λ at end. (length (set first end (Some at)) ≡ 16) × (length (set next at (get_or first end None)) ≡ 48)
    × Linked lines (set first end (Some at)) (set next at (get_or first end None)) i × Rises (set next at (get_or first end None)))
    (sym at) (sym end) (
      length-set first (line (plan_of [] lines) i).end (Some i) ∙ inv.3,
      length-set next i (get_or first (line (plan_of [] lines) i).end None) ∙ inv.4,
      links_more lines c.requires first next i inside inv.3 inv.4 linked,
      rises_on lines c.requires first next i inside inv.3 inv.4 linked inv.6,
    ) in
    (step.0 ∙ inv.0, omega (arith, inside), front.0, more.0, more.1, more.2, more.3)

pub returns : goal.returns
returns c =
    let inv = c.loop-i.invariant in
    let none : length c.loop-i.i-iterator.iter.iter.rest.now ≡ 0 = search rules in
    all_linked c.args.lines.now _ inv.3 inv.4 (subst (Linked c.args.lines.now c.loop-i.first c.loop-i.next) none inv.5)
