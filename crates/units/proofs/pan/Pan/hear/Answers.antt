use Rattle.std.proofs.Common.{refl}
use Rattle.units.proofs.pan.Pan.hear.Goals as goal
use Rattle.voices.proofs.Looks.{newest_steps, pan_looks}
use Rattle.voices.specs.Kinds.{pan_rule}

pub returns : goal.returns
returns c =
    let position = c.args.self.now.settings.position in
    record { steps = newest_steps (pan_rule position) (pan_looks position) c.args.f c.place.result c.place.ensures; late = refl; voice = refl }
