use Rattle.std.proofs.Common.{◌+◌, ◌%◌, get_or, sym, ap, ◌∙◌}
use Rattle.frames.specs.Samples.{silence}
use Rattle.units.proofs.Rings.{heard_within}
use Rattle.units.proofs.past.Past.back.Goals as goal

pub returns : goal.returns
returns c =
    ap (λ at. get_or c.args.self.now.frames ((at + c.args.k) % 64) silence) c.from.ensures ∙ sym (heard_within c.args.self.now c.args.k c.requires)
