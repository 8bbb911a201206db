-- The lateness sweep gives our latenesses.
use Rattle.std.proofs.Common.{◌≡◌, ℕ, ◌+◌, ◌*◌, ◌<◌, ◌≤◌, min, max, List, [], ◌∷◌, map, length, get_or, Some, None, Option, refl, ap, arith}
use Rattle.frames.specs.declared.samples.Frame.{Frame}
use Rattle.patch.specs.Flows.{lateness_kind}
use Rattle.patch.specs.Sweeps.{Swept, joined, joined_on}
use Rattle.racks.specs.Rack.{RackLaws}
use Rattle.session.specs.Plan.{KeepsRules, Plan, line, lines_into, node}
use Rattle.signals.proofs.Lines.{EachInto, all_lines, greatest_at_most}
use Rattle.signals.proofs.Order.{from_starts}
use Rattle.signals.proofs.Units.{unit_lawful}
use Rattle.signals.specs.Patches.{Ordered, OurLatenesses, latest_start, unit_late}
use Rattle.voices.specs.Kinds.{greatest}
use Rattle.voices.specs.Meaning.{Meaning}

-- Values joined by the larger are the greatest.
joined_max : (f : ℕ → ℕ) (x : ℕ) (is : List ℕ) → joined_on max x (map f is) ≡ max x (greatest f is)
joined_max f x [] = omega arith
joined_max f x (i ∷ is) = omega (arith, joined_max f (max x (f i)) is)

joined_greatest : (units : List ℕ) (f : ℕ → ℕ) (is : List ℕ) → joined (lateness_kind units) (map f is) ≡ greatest f is
joined_greatest units f [] = refl
joined_greatest units f (i ∷ is) = joined_max f (f i) is

unit_at_most : (rack : List (Meaning Frame)) → RackLaws rack → (o : Option ℕ) → unit_late rack o ≤ 63
unit_at_most rack laws None = omega arith
unit_at_most rack laws (Some s) = (unit_lawful rack laws s).late_bound

module _ (p : Plan) (rack : List (Meaning Frame)) (units : List ℕ) (place late : ℕ → ℕ) (rules : KeepsRules p) (laws : RackLaws rack)
    (order : Ordered p place) (each : (v : ℕ) → v < length p.nodes → get_or units v 0 ≡ unit_late rack (node p v).unit)
    (swept : Swept (lateness_kind units) p late) where
  -- What a sweep gives, with the greatest in place of the joined values.
  by_latest : (v : ℕ) → v < length p.nodes → late v ≡ min (latest_start p late v + unit_late rack (node p v).unit) 65535
  by_latest v l =
      let latest = joined_greatest units (λ i. late (line p i).start) (lines_into p v) in
      omega (arith, swept v l, each v l)

  latest_at_most : (v : ℕ) → EachInto p v (λ i. late (line p i).start ≤ 63 * (place (line p i).start + 1)) → latest_start p late v ≤ 63 * place v
  latest_at_most v h =
      greatest_at_most (λ i. late (line p i).start) (63 * place v) (lines_into p v)
      (all_lines p v (λ i. late (line p i).start ≤ 63 * place v) (λ i b e. omega (arith, h i b e, order.before i b, ap place e)))

  late_at_most : (v : ℕ) → v < length p.nodes → late v ≤ 63 * (place v + 1)
  late_at_most = from_starts p place rules order (λ v. late v ≤ 63 * (place v + 1)) (λ v l h.
      omega (arith, latest_at_most v h, by_latest v l, unit_at_most rack laws (node p v).unit))

  pub our_latenesses : OurLatenesses p rack late
  our_latenesses v l =
      omega (
        arith,
        by_latest v l,
        latest_at_most v (λ i b e. late_at_most (line p i).start (rules.starts i b)),
        unit_at_most rack laws (node p v).unit,
        order.inside v l,
        rules.few_nodes,
      )
