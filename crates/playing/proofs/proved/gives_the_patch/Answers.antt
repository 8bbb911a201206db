use Rattle.playing.proofs.Plays.{plays_the_patch}
use Rattle.playing.proofs.proved.gives_the_patch.Goals as goal
use Rattle.std.proofs.Common.{refl}

pub returns : goal.returns
returns c = record { answer = refl; plays_the_patch = plays_the_patch }
