use borrow.Author.Tests.{tests}
use Rattle.std.proofs.Common.{max, rules, refl, ◌∙◌, arith}
use Rattle.std.proofs.lemmas.Iterator.{YieldsList-from_range}
use Rattle.std.proofs.lemmas.Iterator.Consumers.{fold_from_yields_List}
use Rattle.std.specs.List.{range_with_len}
use Rattle.units.proofs.Peaks.{greatest_folds}
use Rattle.units.proofs.limit.peak_within.Goals as goal
use Rattle.units.specs.Heard.{heard}
use Rattle.units.specs.Limits.{size}

pub returns : goal.returns
returns c =
    let past = heard c.args.past.now in
    fold_from_yields_List _ (λ peak k. max (size (past k)) peak) 0 _ c.fold.ensures.ran (YieldsList-from_range 0 c.args.frames c.args.frames refl (omega arith)) (λ peak k n q h. search (rules, tests))
    ∙ greatest_folds (λ k. size (past k)) (range_with_len 0 c.args.frames)
