use Rattle.units.proofs.Rings.{heard_nothing}
use Rattle.units.proofs.past.Past.new.Goals as goal

pub returns : goal.returns
returns c = heard_nothing 0
