use Rattle.std.proofs.Common.{length, subst, lit<, arith}
use Rattle.patch.proofs.Assembling.{along_listed, assembled}
use Rattle.patch.proofs.patches.made.patch_along.Goals as goal
use Rattle.patch.specs.Flows.{feeders_kind, lateness_kind}
use Rattle.patch.specs.Sweeps.{SweptTo, by_node}
use Rattle.patch.specs.Wirings.{wired}

pub sweep-late-requires : goal.sweep-late-requires
sweep-late-requires g c =
    let w = c.args.wiring in (lit< tt, along_listed (wired w) w.rules _ _ c.nodes.ensures c.requires.order)

pub sweep-fed-requires : goal.sweep-fed-requires
sweep-fed-requires g c =
    let w = c.args.wiring in (lit< tt, along_listed (wired w) w.rules _ _ c.nodes-2.ensures c.requires.order)

pub returns : goal.returns
returns g c =
    let w = c.args.wiring in
    let p = wired w in
    let rack = c.args.rack.now in
    let units = c.unit_latenesses-units.result in
    assembled p (g.R.Rack.units rack) _ units w.rules (g.R.Rack.lawful rack) c.requires.due c.requires.order c.delays-held.ensures.length w.arranged
    (λ v l. c.unit_latenesses-units.ensures.units v (omega (arith, w.rules.few_nodes)))
    (subst (λ xs. SweptTo (lateness_kind units) p.lines xs (length xs) (by_node (lateness_kind units) c.sweep-late.result))
    c.nodes.ensures c.sweep-late.ensures.swept)
    (subst (λ xs. SweptTo feeders_kind p.lines xs (length xs) (by_node feeders_kind c.sweep-fed.result))
    c.nodes-2.ensures c.sweep-fed.ensures.swept)
    c.delays-held.ensures.held
