use Rattle.std.proofs.Common.{◌≡◌, ◌<◌, length, sym, ap, ◌∙◌, subst, arith}
use Rattle.console.proofs.Rules.{rules_of}
use Rattle.console.proofs.desks.Desk.under.Goals as goal
use Rattle.patch.specs.Inputs.{Arranges}
use Rattle.patch.specs.Placing.{plan_of}
use Rattle.playing.proofs.Keeping.{in_order}
use Rattle.session.specs.Plan.{line}
use Rattle.session.specs.Sessions.{held}

pub invariant_of-result : goal.invariant_of-result
invariant_of-result g c =
    let s = c.args.session.now in
    let p = (held s).plan in
    let r = c.args.patch in
    let rules = rules_of s _ r c.requires in
    let nodes : c.unwrap.result.items ≡ p.nodes = (rw c.unwrap.ensures at c.try_from.ensures).0 ∙ c.nodes.ensures in
    let lines : c.unwrap-2.result.items ≡ p.lines = (rw c.unwrap-2.ensures at c.try_from-2.ensures).0 ∙ c.lines.ensures in
    record {
      few = (omega (arith, ap length nodes, rules.few_nodes), omega (arith, ap length lines, rules.few_lines));
      starts = λ i l.
          subst (λ xs. (line (plan_of p.nodes xs) i).start < 16) (sym lines)
          (omega (arith, rules.starts i (omega (arith, ap length lines)), rules.few_nodes));
      held = omega (arith, c.requires.each_held, ap length lines);
      ordered = λ k l. omega (arith, ap length nodes, ((in_order p _ r rules c.requires).once k l).0);
      arranged = subst (λ xs. Arranges xs r.inputs) (sym lines) c.requires.arranged;
    }
