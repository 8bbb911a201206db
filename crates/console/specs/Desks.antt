-- A desk by what it holds.
use Rattle.console.specs.declared.desks.Desk.{Desk}
use Rattle.patch.specs.Placing.{plan_of}
use Rattle.session.specs.Plan.{Plan}

abbrev pub desk_plan : Desk → Plan
desk_plan d = plan_of d.nodes.items d.lines.items
