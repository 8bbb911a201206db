-- The promise, by induction over histories.
use Rattle.std.proofs.Common.{◌≡◌, ℕ, ◌+◌, List, [], ◌++◌, map, length, Ok, Err, Result, sym, refl, ap, subst, ap₂, arith}
use Rattle.console.proofs.Rules.{rules_of}
use Rattle.console.specs.Answers.{by_answer}
use Rattle.console.specs.Calls.{deck_after, next_frames, Played, Rewound, Started}
use Rattle.console.specs.Desks.{desk_plan}
use Rattle.console.specs.Histories.{Claim, History}
use Rattle.console.specs.Histories.History.{begun, started, played, rewound, told}
use Rattle.console.specs.Points.{console_patch, console_plan, Point}
use Rattle.console.specs.declared.consoles.Console.{Console}
use Rattle.console.specs.declared.desks.Desk.{Desk}
use Rattle.console.specs.declared.faults.ConsoleFault.{ConsoleFault}
use Rattle.frames.specs.declared.samples.Frame.{Frame}
use Rattle.playing.proofs.Keeping.{begins, claims, plays_on, rewinds, Stands}
use Rattle.playing.specs.Tape.{silent_tape}
use Rattle.playing.specs.Work.{deck, Deck}
use Rattle.racks.specs.Rack.{RackLaws, rested}
use Rattle.reels.specs.Tracks.{Tracks}
use Rattle.session.specs.Sessions.{held}
use Rattle.session.specs.declared.sessions.Session.{Session}

-- what stands at a point
abbrev pub StandsAt : Tracks → Point → List Frame → Type 0
StandsAt reel here heard =
    Stands (console_plan here.console) (console_patch here.console) reel here.console.position (deck here.units here.tape) heard

module _ (reel : Tracks) where
  -- what stands, stands by other names
  carried : (d e : Desk) (n m : ℕ) (k l : Deck) (x y : List Frame) → e ≡ d → m ≡ n → l ≡ k → y ≡ x
      → Stands (desk_plan d) d.patch reel n k x → Stands (desk_plan e) e.patch reel m l y
  carried d e n m k l x y a b c f s =
      subst (λ e. Stands (desk_plan e) e.patch reel m l y) (sym a)
      (subst (λ m. Stands (desk_plan d) d.patch reel m l y) (sym b)
      (subst (λ l. Stands (desk_plan d) d.patch reel n l y) (sym c)
      (subst (λ y. Stands (desk_plan d) d.patch reel n k y) (sym f) s)))

  after_start : (session : Session) (here there : Point) → RackLaws here.units → Started session here there (Ok tt) → StandsAt reel there []
  after_start session here there laws s =
      let c = there.console in
      let b = s.console in
      subst (λ p. Stands p (console_patch c) reel c.position (deck there.units there.tape) []) (sym b.0)
      (subst (λ n. Stands (held session).plan (console_patch c) reel n (deck there.units there.tape) []) (sym b.2)
      (subst (λ d. Stands (held session).plan (console_patch c) reel 0 d []) (sym (ap₂ deck s.units s.tape))
      (begins (held session).plan (console_patch c) reel here.units (rules_of session here.units (console_patch c) b.1) laws b.1)))

  restarted : (session : Session) (here there : Point) (heard : List Frame) (r : Result Unit ConsoleFault)
      → StandsAt reel here heard → Started session here there r → StandsAt reel there (by_answer r [] heard)
  restarted session here there heard (Ok done) s p = after_start session here there s.follows.laws p
  restarted session here there heard (Err fault) s p =
      carried here.console.desk there.console.desk here.console.position there.console.position (deck here.units here.tape) (deck there.units there.tape) heard heard
      (ap (λ (c : Console). c.desk) p.console) (ap (λ (c : Console). c.position) p.console) (ap₂ deck p.units p.tape) refl s

  after_play : (here there : Point) (before after heard : List Frame) (r : Result Unit ConsoleFault)
      → StandsAt reel here heard → Played reel here there before after r → StandsAt reel there (by_answer r (heard ++ after) heard)
  after_play here there before after heard (Ok done) s p =
      carried here.console.desk there.console.desk (here.console.position + length before) there.console.position
      (deck_after reel here (length before)) (deck there.units there.tape) (heard ++ next_frames reel here (length before)) (heard ++ after)
      p.desk p.position p.deck (ap (λ l. heard ++ l) p.out) (plays_on _ _ reel _ _ heard s (length before))
  after_play here there before after heard (Err fault) s p =
      carried here.console.desk there.console.desk here.console.position there.console.position (deck here.units here.tape) (deck there.units there.tape) heard heard
      p.desk (omega (arith, p.position)) p.deck refl s

  after_rewind : (here there : Point) (heard : List Frame) (r : Result Unit ConsoleFault)
      → StandsAt reel here heard → Rewound here there r → StandsAt reel there (by_answer r [] heard)
  after_rewind here there heard (Ok done) s p =
      carried here.console.desk there.console.desk 0 there.console.position (deck (map rested here.units) silent_tape) (deck there.units there.tape) [] []
      p.desk p.position (ap₂ deck p.units p.tape) refl (rewinds _ _ reel _ _ heard s)
  after_rewind here there heard (Err fault) s p =
      carried here.console.desk there.console.desk here.console.position there.console.position (deck here.units here.tape) (deck there.units there.tape) heard heard
      p.desk p.position (ap₂ deck p.units p.tape) refl s

  holds : (here : Point) (heard : List Frame) → History reel here heard → StandsAt reel here heard
  holds _ _ (begun session here there laws s) = after_start session here there laws s
  holds _ _ (started session here there heard r h s) = restarted session here there heard r (holds here heard h) s
  holds _ _ (played here there before after heard r h p) = after_play here there before after heard r (holds here heard h) p
  holds _ _ (rewound here there heard r h p) = after_rewind here there heard r (holds here heard h) p
  holds _ _ (told here heard v r h p) = holds here heard h

  pub keeps : (here : Point) (heard : List Frame) → History reel here heard → Claim reel here heard
  keeps here heard h = claims _ _ _ _ _ _ (holds here heard h)
