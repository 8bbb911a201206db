use Rattle.std.proofs.Common.{◌≡◌, ◌++◌, drop}
use Rattle.console.proofs.desks.Desk.fill.Given as goal
use Rattle.console.specs.Desks.{desk_plan}
use Rattle.patch.specs.Patches.{delay_of, ordered_nodes}
use Rattle.playing.specs.Work.{after_frames, deck, frames_out}

abbrev pub invariant-loop-k : goal.invariant-loop-k
invariant-loop-k g l =
    (deck (g.R.Rack.units l.rack) l.tape
    ≡ after_frames (desk_plan l.self) (ordered_nodes l.self.patch) (delay_of l.self.patch) (g.L.Reel.tracks l.reel) l.k l.n
    (deck (g.R.Rack.units l.initial.rack) l.initial.tape))
    × (l.out
    ≡ frames_out (desk_plan l.self) (ordered_nodes l.self.patch) (delay_of l.self.patch) (g.L.Reel.tracks l.reel) l.k l.n
    (deck (g.R.Rack.units l.initial.rack) l.initial.tape) ++ drop l.k l.initial.out)
