use Rattle.std.proofs.Common.{◌<◌, length, sym, ap, ◌∙◌, arith}
use Rattle.patch.proofs.Assembling.{of_same}
use Rattle.patch.proofs.wirings.Wiring.of.Goals as goal
use Rattle.session.proofs.Rules.{full}
use Rattle.session.specs.Plan.{KeepsRules}
use Rattle.session.specs.Sessions.{held}
use Rattle.std.proofs.lemmas.Bool.{eqb-false}

pub invariant_of-result : goal.invariant_of-result
invariant_of-result c =
    let session = c.args.session.now in
    let none = eqb-false (length c.nodes-nodes.result.now) 0 (sym c.is_empty.ensures ∙ c.if-is_empty.false) in
    let some : 0 < length c.nodes-nodes.result.now = omega arith in
    record {
      some_node = some;
      rules = of_same KeepsRules (held session).plan _ _ c.nodes-nodes.ensures c.lines-lines.ensures
          (full session (omega (arith, some, ap length c.nodes-nodes.ensures))).keeps;
      arranged = c.arrange-inputs.ensures;
    }
