-- All histories, and the promise about them.
use Rattle.std.specs.Prelude.{ℕ, List, [], ◌++◌, Ok, Result}
use Rattle.console.specs.Answers.{by_answer}
use Rattle.console.specs.Calls.{Played, Rewound, Started, Told}
use Rattle.console.specs.Points.{console_patch, console_plan, Point}
use Rattle.console.specs.declared.faults.ConsoleFault.{ConsoleFault}
use Rattle.frames.specs.declared.samples.Frame.{Frame}
use Rattle.patch.specs.declared.faults.PatchFault.{PatchFault}
use Rattle.playing.specs.Promise.{Promise}
use Rattle.racks.specs.Rack.{RackLaws}
use Rattle.reels.specs.Tracks.{Tracks}
use Rattle.session.specs.declared.sessions.Session.{Session}

-- A history over one reel, to a point, with the frames of every successful play since the last successful start or
-- rewind, joined in order. It begins with a start that succeeds, on any session and any lawful rack, and goes on with start,
-- play, rewind and lateness in any order, refused ones too, each at the point that the one before left.
pub data History (reel : Tracks) : Point → List Frame → Type 0 where
  begun : (session : Session) (here there : Point) → RackLaws here.units → Started session here there (Ok tt) → History reel there []
  started : (session : Session) (here there : Point) (heard : List Frame) (r : Result Unit ConsoleFault)
      → History reel here heard → Started session here there r → History reel there (by_answer r [] heard)
  played : (here there : Point) (before after heard : List Frame) (r : Result Unit ConsoleFault)
      → History reel here heard → Played reel here there before after r → History reel there (by_answer r (heard ++ after) heard)
  rewound : (here there : Point) (heard : List Frame) (r : Result Unit ConsoleFault)
      → History reel here heard → Rewound here there r → History reel there (by_answer r [] heard)
  told : (here : Point) (heard : List Frame) (v : ℕ) (r : Result ℕ PatchFault) → History reel here heard → Told here v r → History reel here heard

-- The promise at a point: what was heard is the mix from frame −L on, L being what lateness answers for node 0; every
-- aligned rival gives the same mix, later by its own lateness; ours is aligned, lateness answers its latenesses, and no
-- rival's are less.
abbrev pub Claim : Tracks → Point → List Frame → Type 0
Claim reel here heard = Promise (console_plan here.console) (console_patch here.console) here.units reel heard
