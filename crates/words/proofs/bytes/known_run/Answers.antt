use Rattle.std.proofs.Common.{length, ap, ◌∙◌, rules, tests, not}
use Rattle.std.proofs.lemmas.Iterator.{YieldsList-from_slice}
use Rattle.std.proofs.lemmas.Iterator.Search.{position_from_yields_List}
use Rattle.std.specs.Option.{unwrap_or}
use Rattle.words.proofs.Runs.{known_is}
use Rattle.words.proofs.bytes.known_run.Goals as goal
use Rattle.words.specs.Bytes.{is_known}

pub returns-clause-value : goal.returns-clause-value
returns-clause-value c =
    let found = position_from_yields_List (λ b. not (is_known b)) _ _ c.position-found.result c.position-found.ensures.ran (YieldsList-from_slice c.args.bytes.now cc) (λ x b q k. search (rules, tests)) in
    c.unwrap_or.ensures ∙ ap (λ o. unwrap_or o (length c.args.bytes.now)) found ∙ known_is c.args.bytes.now
