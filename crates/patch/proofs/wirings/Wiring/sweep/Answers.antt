use Rattle.std.proofs.Common.{◌≡◌, ◌+◌, length, get_or, set, sym, ap, ◌∙◌, subst}
use Rattle.patch.proofs.Sweeping.{sweeps_on}
use Rattle.patch.proofs.wirings.Wiring.sweep.Goals as goal
use Rattle.patch.specs.Sweeps.{SweptTo, by_node}
use Rattle.std.proofs.lemmas.List.{length-set}

pub loop-v-preserved : goal.loop-v-preserved
loop-v-preserved g c =
    let kind = g.F.Flow.kind c.args.kind.now in
    let lines = c.args.self.now.lines.now in
    let order = c.args.order.now in
    let values = c.loop-v.values in
    let k = c.loop-v.v-index in
    let v = get_or order k 0 in
    let x = c.step.result in
    subst (λ at. (length (set values at x) ≡ 16) × SweptTo kind lines order (k + 1) (by_node kind (set values at x))) (sym c.from.ensures) (
      length-set values v x ∙ c.loop-v.invariant.0,
      sweeps_on kind lines order c.requires values k x c.loop-v-test.true c.loop-v.invariant.0 c.loop-v.invariant.1
          (c.step.ensures ∙ ap (kind.step v) c.hear-heard.ensures),
    )
