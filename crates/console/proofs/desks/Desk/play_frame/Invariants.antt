use Rattle.std.proofs.Common.{◌≡◌, take}
use Rattle.console.proofs.desks.Desk.play_frame.Given as goal
use Rattle.console.specs.Desks.{desk_plan}
use Rattle.patch.specs.Patches.{delay_of, ordered_nodes}
use Rattle.playing.specs.Work.{deck, frame_work}

abbrev pub invariant-loop-v : goal.invariant-loop-v
invariant-loop-v g l =
    deck (g.R.Rack.units l.rack) l.tape
    ≡ frame_work (desk_plan l.self) (take l.v-index (ordered_nodes l.self.patch)) (delay_of l.self.patch) (g.L.Reel.tracks l.reel) l.n
    (deck (g.R.Rack.units l.initial.rack) l.initial.tape)
