-- Our latenesses and our patch.
use Rattle.std.proofs.Common.{◌≡◌, ℕ, ◌+◌, ◌*◌, ◌<◌, ◌≤◌, List, length, Some, None, Option, sym, refl, ap, ◌∙◌, arith}
use Rattle.frames.specs.declared.samples.Frame.{Frame}
use Rattle.racks.specs.Rack.{RackLaws}
use Rattle.session.specs.Plan.{KeepsRules, Plan, line, lines_into, node}
use Rattle.signals.proofs.Lines.{EachInto, all_lines, at_most_greatest, each_line, greatest_at_most, greatest_same, with_lines}
use Rattle.signals.proofs.Order.{LooksBack, from_starts, meets_rule, settled}
use Rattle.signals.proofs.Units.{unit_lawful}
use Rattle.signals.specs.Patches.{Ordered, OurLatenesses, lateness, latest_start, unit_late}
use Rattle.signals.specs.Theorems.{DelaysStayShort, OneArrival, OneLateness, OursIsAligned, OursIsLeast}
use Rattle.voices.specs.Kinds.{greatest}
use Rattle.voices.specs.Meaning.{Meaning}

-- A node's lateness, from those of others.
abbrev late_rule : Plan → List (Meaning Frame) → (ℕ → ℕ) → ℕ → ℕ
late_rule p rack late v = latest_start p late v + unit_late rack (node p v).unit

latest_looks : (p : Plan) (f g : ℕ → ℕ) (v : ℕ) → EachInto p v (λ i. f (line p i).start ≡ g (line p i).start)
    → latest_start p f v ≡ latest_start p g v
latest_looks p f g v h =
    greatest_same (λ i. f (line p i).start) (λ i. g (line p i).start) (lines_into p v)
    (all_lines p v (λ i. f (line p i).start ≡ g (line p i).start) h)

late_looks : (p : Plan) (rack : List (Meaning Frame)) → LooksBack p (late_rule p rack)
late_looks p rack f g v h = ap (λ k. k + unit_late rack (node p v).unit) (latest_looks p f g v h)

pub one_lateness : OneLateness
one_lateness p rack place rules order =
    let late = settled place 0 (late_rule p rack) in (
      late,
      (λ v l. meets_rule p place order 0 (late_rule p rack) (late_looks p rack) v),
      λ other h.
          from_starts p place rules order (λ v. other v ≡ late v) (λ v l before.
          h v l ∙ late_looks p rack other late v before ∙ sym (meets_rule p place order 0 (late_rule p rack) (late_looks p rack) v)),
    )

-- A start is at most as late as the latest start into its line's end.
start_at_most : (p : Plan) (late : ℕ → ℕ) (i : ℕ) → i < length p.lines → late (line p i).start ≤ latest_start p late (line p i).end
start_at_most p late i b =
    each_line p (line p i).end (λ j. late (line p j).start ≤ latest_start p late (line p i).end)
    (at_most_greatest (λ j. late (line p j).start) (lines_into p (line p i).end)) i b refl

-- The latest start is at most what every start is at most.
latest_at_most : (p : Plan) (late : ℕ → ℕ) (v k : ℕ) → EachInto p v (λ i. late (line p i).start ≤ k) → latest_start p late v ≤ k
latest_at_most p late v k h =
    greatest_at_most (λ i. late (line p i).start) k (lines_into p v) (all_lines p v (λ i. late (line p i).start ≤ k) h)

pub ours_is_aligned : OursIsAligned
ours_is_aligned p rack late rules ours = (
  record {
    meets = λ i b. omega (arith, ours (line p i).start (rules.starts i b), start_at_most p late i b);
    alone = λ v l e. ap (greatest (λ i. late (line p i).start)) e;
  },
  λ v l. sym (ours v l),
)

pub one_arrival : OneArrival
one_arrival p rack place rules order delay a b s t =
    from_starts p place rules order (λ v. a v ≡ b v) (λ v l before.
    with_lines p v (a v ≡ b v)
    (λ none. s.alone v l none ∙ sym (t.alone v l none))
    (λ i c e. omega (arith, ap a e, ap b e, s.meets i c, t.meets i c, before i c e)))

pub ours_is_least : OursIsLeast
ours_is_least p rack place late rules order ours delay arrival aligned =
    from_starts p place rules order (λ v. late v ≤ lateness p rack arrival v) (λ v l before.
    let most : latest_start p late v ≤ arrival v =
    latest_at_most p late v (arrival v) (λ i b e. omega (arith, before i b e, aligned.meets i b, ap arrival e)) in
    omega (arith, ours v l))

unit_late_at_most : (rack : List (Meaning Frame)) → RackLaws rack → (o : Option ℕ) → unit_late rack o ≤ 63
unit_late_at_most rack laws None = omega arith
unit_late_at_most rack laws (Some s) = (unit_lawful rack laws s).late_bound

module _ (p : Plan) (rack : List (Meaning Frame)) (place late : ℕ → ℕ) (rules : KeepsRules p) (laws : RackLaws rack)
    (order : Ordered p place) (ours : OurLatenesses p rack late) where
  latest_by_place : (v : ℕ) → EachInto p v (λ i. late (line p i).start ≤ 63 * (place (line p i).start + 1)) → latest_start p late v ≤ 63 * place v
  latest_by_place v h = latest_at_most p late v (63 * place v) (λ i b e. omega (arith, h i b e, order.before i b, ap place e))

  late_by_place : (v : ℕ) → v < length p.nodes → late v ≤ 63 * (place v + 1)
  late_by_place = from_starts p place rules order (λ v. late v ≤ 63 * (place v + 1)) (λ v l h.
      omega (arith, latest_by_place v h, ours v l, unit_late_at_most rack laws (node p v).unit))

pub delays_stay_short : DelaysStayShort
delays_stay_short p rack place late rules laws order ours i b =
    let latest = latest_by_place p rack place late rules laws order ours (line p i).end
    (λ j c _. late_by_place p rack place late rules laws order ours (line p j).start (rules.starts j c)) in
    omega (arith, order.inside (line p i).end (rules.ends i b), rules.few_nodes)
