use Rattle.std.proofs.Common.{◌≤◌, length, take, drop, refl, ap, ◌∙◌, subst, arith}
use Rattle.std.proofs.lemmas.Bool.{cond-true, le-leb}
use Rattle.std.proofs.lemmas.List.{length-take-le, take_rest}
use Rattle.words.proofs.Cutting.{next_cut}
use Rattle.words.proofs.pieces.Pieces.next.Goals as goal

pub returns-clause-cut : goal.returns-clause-cut
returns-clause-cut c =
    let p = c.args.self.now in
    let rest = c.in_ok-rest.rest.now in
    let v = c.bytes.ensures.value in
    let few = c.bytes.ensures.bound in
    let l = c.in_ok-rest.ensures.lookup.0 in
    let n = length-take-le c.upto.result rest c.upto.ensures.bound in
    next_cut p _ c.new.result rest c.upto.result refl refl (subst (λ b. p.at ≤ length b) v l.0) (l.2 ∙ take_rest c.bytes.result.now p.at ∙ ap (drop p.at) v) c.upto.ensures.value c.upto.ensures.bound (omega arith)
    (c.new.ensures ∙ cond-true _ _ _ (le-leb (length (take c.upto.result rest)) 16384 (let m = c.upto.ensures.bound in let k = l.3 in omega arith)))
