use Rattle.std.specs.Prelude.{is_ok}
use Rattle.std.proofs.Common.{◌≡◌, ◌∙◌, ap₂, rules}
use Rattle.console.proofs.Adding.{adds_first, adds_next}
use Rattle.console.proofs.desks.Desk.added.Goals as goal
use Rattle.console.specs.Desks.{desk_plan}
use Rattle.patch.proofs.Walking.{walks_lines}
use Rattle.patch.specs.Inputs.{first_into, next_after}
use Rattle.patch.specs.Walks.{numbers_left, walk}

pub loop-i-init : goal.loop-i-init
loop-i-init c =
    let d = c.args.self.now in
    let new = c.new-sum.ensures in
    let left = numbers_left c.into_iter-i-iterator.result in
    let same : left ≡ numbers_left c.lines_into-i-items.result = search rules in (
      tt,
      tt,
      adds_first d _ c.args.v c.new-sum.result left
          (same ∙ (c.lines_into-i-items.ensures
          ∙ (ap₂ (λ r v. walk (next_after r) 49 (first_into r v)) c.inputs.ensures c.from.ensures
          ∙ walks_lines (desk_plan d).lines d.patch.inputs d.arranged c.args.v c.requires)))
          (new.left, new.right, new.lines),
    )

pub loop-i-preserved : goal.loop-i-preserved
loop-i-preserved c =
    let h = c.add.ensures in (
      tt,
      tt,
      adds_next c.args.self.now _ c.args.v c.loop-i.sum c.add.new.self (is_ok c.add.result)
          (numbers_left c.loop-i.i-iterator) (numbers_left c.next.new.self) c.in-Some.i c.part.result
          c.in-Some.ensures.steps c.part.ensures c.loop-i.invariant.2 h.room h.left h.right h.lines,
    )
