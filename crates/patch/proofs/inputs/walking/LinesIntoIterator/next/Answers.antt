use Rattle.std.proofs.Common.{rules, ◌∷◌, length, sym, ap, ◌∙◌}
use Rattle.patch.proofs.Walking.{walks_on}
use Rattle.patch.proofs.inputs.walking.LinesIntoIterator.next.Goals as goal
use Rattle.patch.specs.Inputs.{next_after}
use Rattle.patch.specs.Walks.{walk}

pub returns-clause-steps : goal.returns-clause-steps
returns-clause-steps c =
    let r = c.args.self.now.inputs.now in
    ap (walk (next_after r) 49) c.in_ok-i.was
    ∙ (walks_on (next_after r) r.rises c.in_ok-i.i
    ∙ ap (λ at. c.in_ok-i.i ∷ walk (next_after r) 49 at) (sym (c.next_after-self.ensures ∙ ap (next_after r) c.from.ensures)))

pub returns-clause-goes : goal.returns-clause-goes
returns-clause-goes c =
    let r = c.args.self.now.inputs.now in
    let step = ap (walk (next_after r) 49) c.in_ok-i.was
    ∙ (walks_on (next_after r) r.rises c.in_ok-i.i
    ∙ ap (λ at. c.in_ok-i.i ∷ walk (next_after r) 49 at) (sym (c.next_after-self.ensures ∙ ap (next_after r) c.from.ensures))) in
    let shorter = ap length step in search rules
