use Rattle.std.proofs.Common.{rules, ◌≡◌, ap, ◌∙◌}
use Rattle.patch.proofs.Hearing.{hears_first}
use Rattle.patch.proofs.Walking.{walks_lines}
use Rattle.patch.proofs.wirings.Wiring.hear.Goals as goal
use Rattle.patch.specs.Inputs.{first_into, next_after}
use Rattle.patch.specs.Walks.{numbers_left, walk}

pub loop-i-init : goal.loop-i-init
loop-i-init g c =
    let w = c.args.self.now in
    let left = numbers_left c.into_iter-i-iterator.result in
    let same : left ≡ numbers_left c.lines_into-i-items.result = search rules in (
      tt,
      tt,
      hears_first (g.F.Flow.kind c.args.kind.now) w.lines.now c.args.values.now c.args.v left
          (same ∙ (c.lines_into-i-items.ensures ∙ (ap (λ v. walk (next_after w.inputs) 49 (first_into w.inputs v)) c.from.ensures
          ∙ walks_lines w.lines.now w.inputs w.arranged c.args.v c.requires))),
    )
