-- What each call does, from one point to another. A call that is refused leaves all as it was.
use Rattle.std.specs.Prelude.{◌≡◌, ℕ, ◌+◌, List, map, length, Result, MatchResult}
use Rattle.console.specs.Answers.{by_answer, play_answer, rewind_answer, start_answer}
use Rattle.console.specs.Points.{console_patch, console_plan, Point}
use Rattle.console.specs.declared.consoles.Console.{Console}
use Rattle.console.specs.declared.faults.ConsoleFault.{ConsoleFault}
use Rattle.frames.specs.declared.samples.Frame.{Frame}
use Rattle.patch.specs.Ours.{OurPatch}
use Rattle.patch.specs.Patches.{delay_of, ordered_nodes}
use Rattle.patch.specs.declared.faults.PatchFault.{PatchFault}
use Rattle.playing.specs.Promise.{lateness_answer}
use Rattle.playing.specs.Tape.{silent_tape}
use Rattle.playing.specs.Work.{after_frames, deck, Deck, frames_out}
use Rattle.racks.specs.Rack.{rested}
use Rattle.reels.specs.Tracks.{Tracks}
use Rattle.session.specs.Plan.{Plan}
use Rattle.session.specs.Sessions.{held}
use Rattle.session.specs.declared.sessions.Session.{Session}
use Rattle.voices.specs.Meaning.{Meaning}

-- A console holds a session's nodes and lines with our patch of them and the rack, and stands at frame 0.
abbrev pub Begins : Plan → List (Meaning Frame) → Console → Type 0
Begins p units c = (console_plan c ≡ p) × OurPatch p units (console_patch c) × (c.position ≡ 0)

-- A start on a session: the console begins, the rack rests and the tape is silent.
pub record Started (session : Session) (here there : Point) (r : Result Unit ConsoleFault) : Type 0 where
  pub answer : r ≡ start_answer (held session).plan here.units here.tape
  pub console : MatchResult r (λ _. Begins (held session).plan here.units there.console) (λ _. there.console ≡ here.console)
  pub units : there.units ≡ by_answer r (map rested here.units) here.units
  pub tape : there.tape ≡ by_answer r silent_tape here.tape

-- The rack and the tape after k frames more, and node 0's frames.
abbrev pub deck_after : Tracks → Point → ℕ → Deck
deck_after reel here k =
    after_frames (console_plan here.console) (ordered_nodes (console_patch here.console)) (delay_of (console_patch here.console)) reel
    k here.console.position (deck here.units here.tape)

abbrev pub next_frames : Tracks → Point → ℕ → List Frame
next_frames reel here k =
    frames_out (console_plan here.console) (ordered_nodes (console_patch here.console)) (delay_of (console_patch here.console)) reel
    k here.console.position (deck here.units here.tape)

-- A play into a buffer that holds `before` and then `after`: the position moves by the buffer's length.
pub record Played (reel : Tracks) (here there : Point) (before after : List Frame) (r : Result Unit ConsoleFault) : Type 0 where
  pub answer : r ≡ play_answer here.console here.tape (length before)
  pub desk : there.console.desk ≡ here.console.desk
  pub position : there.console.position ≡ here.console.position + by_answer r (length before) 0
  pub deck : deck there.units there.tape ≡ by_answer r (deck_after reel here (length before)) (deck here.units here.tape)
  pub out : after ≡ by_answer r (next_frames reel here (length before)) before

-- A rewind: the rack rests, the tape is silent, and the position is 0.
pub record Rewound (here there : Point) (r : Result Unit ConsoleFault) : Type 0 where
  pub answer : r ≡ rewind_answer here.console here.tape
  pub desk : there.console.desk ≡ here.console.desk
  pub position : there.console.position ≡ by_answer r 0 here.console.position
  pub units : there.units ≡ by_answer r (map rested here.units) here.units
  pub tape : there.tape ≡ by_answer r silent_tape here.tape

-- A question how late node v is: nothing changes.
abbrev pub Told : Point → ℕ → Result ℕ PatchFault → Type 0
Told here v r = r ≡ lateness_answer (console_patch here.console) v
