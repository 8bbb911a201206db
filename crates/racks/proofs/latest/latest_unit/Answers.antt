use Rattle.std.proofs.Common.{ℕ, rules, tests, unwrap_or, ap, ◌∙◌, arith}
use Rattle.std.proofs.lemmas.Iterator.{YieldsList-from_map, YieldsList-from_range}
use Rattle.std.proofs.lemmas.Iterator.Consumers.{reduce_from_yields_List}
use Rattle.std.proofs.lemmas.List.Folds.{max_of_map}
use Rattle.std.proofs.Math.Nat.{max_comm}
use Rattle.std.specs.List.{fold, range_with_len}
use Rattle.racks.proofs.latest.latest_unit.Goals as goal
use Rattle.racks.proofs.Numbered.{greatest_numbered}
use Rattle.racks.specs.Rack.{unit}
use Rattle.units.proofs.Peaks.{greatest_folds}

pub returns : goal.returns
returns g c =
    let units = g.R.Rack.units c.args.rack.now in
    let late = λ (s : ℕ). (unit units s).late in
    let n = c.count.result in
    c.unwrap_or.ensures
    ∙ ap (λ o. unwrap_or o 0) (reduce_from_yields_List _ c.map.result _ c.max.ensures.ran (YieldsList-from_map _ late (YieldsList-from_range 0 n n c.map.ensures.source (omega arith)) c.map.ensures.closure (λ x b q k. search (rules, tests))))
    ∙ max_of_map late (range_with_len 0 n)
    ∙ ap (λ h. fold h 0 (range_with_len 0 n)) (λ i a s. max_comm a (late s) i)
    ∙ greatest_folds late (range_with_len 0 n)
    ∙ greatest_numbered units n c.count.ensures
