-- A wiring by the plan that it stands for.
use Rattle.patch.specs.Placing.{plan_of}
use Rattle.patch.specs.declared.wirings.Wiring.{Wiring}
use Rattle.session.specs.Plan.{Plan}

abbrev pub wired : Wiring → Plan
wired w = plan_of w.nodes.now w.lines.now
