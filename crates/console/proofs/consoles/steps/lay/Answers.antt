use Rattle.std.proofs.Common.{replicate, ap, ◌∙◌, rules}
use Rattle.console.proofs.consoles.steps.lay.Goals as goal
use Rattle.frames.specs.Samples.{silence}
use Rattle.playing.specs.Tape.{silent_tape}

pub returns-clause-tape : goal.returns-clause-tape
unfolding silent_tape
returns-clause-tape g c = c.fill.ensures.after (λ y e. search rules) ∙ ap (λ n. replicate n silence) c.told-tape
