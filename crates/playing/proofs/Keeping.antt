-- A session keeps its promise: what it has heard is the output under our patch so far, from start or rewind on.
use Rattle.std.proofs.Common.{◌≡◌, ℕ, zero, suc, ◌+◌, ◌<◌, ◌≤◌, List, [], ◌∷◌, ◌++◌, map, length, ℤ, pos, ◌+ℤ◌, ◌-ℤ◌, Some, None, Ok, Option, sym, refl, ap, ◌∙◌, subst, ap₂, arith}
use Rattle.frames.specs.Samples.{silence}
use Rattle.frames.specs.declared.samples.Frame.{Frame}
use Rattle.patch.proofs.Assembling.{all_placed, some_node, whole_order}
use Rattle.patch.proofs.Placed.{placed_is_ordered, sound}
use Rattle.patch.proofs.Standing.{at_place, inside_stands, place_inside}
use Rattle.patch.specs.Ours.{OurPatch}
use Rattle.patch.specs.Patches.{delay_of, late_of, latenesses, ordered_nodes}
use Rattle.patch.specs.Placing.{order_of, place_in}
use Rattle.patch.specs.declared.patches.Patch.{Patch}
use Rattle.playing.proofs.Follow.{Follows}
use Rattle.playing.proofs.Plays.{at_first, plays, span_append}
use Rattle.playing.specs.Promise.{Promise, Rival, lateness_answer}
use Rattle.playing.specs.Tape.{silent_tape}
use Rattle.playing.specs.Theorems.{InOrder}
use Rattle.playing.specs.Work.{after_frames, Deck, deck, frames_out}
use Rattle.racks.specs.Rack.{RackLaws, rested, unit}
use Rattle.reels.specs.Tracks.{Tracks}
use Rattle.session.specs.Plan.{KeepsRules, line, node, Plan}
use Rattle.signals.proofs.Agreement.{aligned_is_ideal}
use Rattle.signals.proofs.Existence.{one_ideal, one_under}
use Rattle.signals.proofs.Latenesses.{ours_is_least}
use Rattle.signals.proofs.Listening.{span_same}
use Rattle.signals.proofs.Units.{unit_lawful}
use Rattle.signals.specs.Patches.{Aligned, lateness, latest_start, unit_late}
use Rattle.signals.specs.Signals.{Gives, Ideal, last_frame, Signal, span, Under}
use Rattle.std.proofs.lemmas.List.{length-map}
use Rattle.std.proofs.lemmas.Int.{ints}
use Rattle.std.proofs.lemmas.Bool.{cond-true, lt-ltb}
use Rattle.voices.specs.Meaning.{Lawful, Meaning}

-- The deck follows our patch's signals, and what was heard is the output under it so far.
pub record Stands (p : Plan) (r : Patch) (reel : Tracks) (position : ℕ) (d : Deck) (heard : List Frame) : Type 0 where
  -- the rack as it was at start
  pub rack : List (Meaning Frame)
  pub y : ℕ → Signal Frame
  pub rules : KeepsRules p
  pub laws : RackLaws rack
  pub ours : OurPatch p rack r
  pub under : Under p rack reel (delay_of r) y
  pub follows : Follows p rack reel (delay_of r) y (λ _. position) d
  pub so_far : heard ≡ span (y 0) (pos 0) position

-- Each unit of a rack put to rest is that unit at rest.
unit_rested : (units : List (Meaning Frame)) (s : ℕ) → unit (map rested units) s ≡ rested (unit units s)
unit_rested [] s = refl
unit_rested (m ∷ units) zero = refl
unit_rested (m ∷ units) (suc s) = unit_rested units s

-- A unit at rest keeps the laws.
rested_lawful : (m : Meaning Frame) → Lawful silence m → Lawful silence (rested m)
rested_lawful m law = record {
  late_bound = law.late_bound;
  voice_length = law.voice_length;
  present_length = law.voice_length;
  voice_begins = law.voice_begins;
  voice_waits = law.voice_waits;
}

-- So does a rack put to rest.
rack_rested : (units : List (Meaning Frame)) → RackLaws units → RackLaws (map rested units)
rack_rested units laws = record {
  few = rw (length-map units rested) laws.few;
  each = λ s _. subst (Lawful silence) (sym (unit_rested units s)) (rested_lawful (unit units s) (unit_lawful units laws s));
}

-- Our patch has the nodes in order.
pub in_order : (p : Plan) (rack : List (Meaning Frame)) (r : Patch) → KeepsRules p → OurPatch p rack r
    → InOrder p (ordered_nodes r) (place_in (ordered_nodes r))
in_order p rack r rules ours =
    let placed = all_placed p rack ours.clear in
    subst (λ xs. InOrder p xs (place_in xs)) (sym ours.in_order) (record {
      whole = whole_order p placed;
      stands = λ v l. (place_inside (order_of p) v (placed v l), at_place (order_of p) v (placed v l));
      once = λ k l.
          let at = (sound p).once k l in
          ((sound p).declared _ (inside_stands (order_of p) _ (omega arith)), at);
      before = (placed_is_ordered p rules placed).before;
    })

-- Our delays are short enough for the tape.
short : (p : Plan) (rack : List (Meaning Frame)) (r : Patch) → OurPatch p rack r → (i : ℕ) → i < length p.lines → delay_of r i ≤ 1023
short p rack r ours i b = omega (arith, ours.short i b)

-- A rack with the voices and latenesses of the first, put to rest, and a silent tape stand at the beginning.
from_rest : (p : Plan) (r : Patch) (reel : Tracks) (rack units : List (Meaning Frame)) (y : ℕ → Signal Frame)
    → KeepsRules p → RackLaws rack → OurPatch p rack r → Under p rack reel (delay_of r) y → RackLaws units
    → ((s : ℕ) → (unit units s).voice ≡ (unit rack s).voice) → ((s : ℕ) → (unit units s).late ≡ (unit rack s).late)
    → Stands p r reel 0 (deck (map rested units) silent_tape) []
from_rest p r reel rack units y rules laws ours under lawful voices lates = record {
  rack = rack;
  y = y;
  rules = rules;
  laws = laws;
  ours = ours;
  under = under;
  follows =
      at_first p rack reel (ordered_nodes r) (place_in (ordered_nodes r)) (delay_of r) y rules laws (in_order p rack r rules ours) (short p rack r ours) under
      (map rested units) (rack_rested units lawful)
      (λ s. ap (λ m. m.present) (unit_rested units s) ∙ sym (ap (λ m. m.voice) (unit_rested units s)))
      (λ s. ap (λ m. m.voice) (unit_rested units s) ∙ voices s)
      (λ s. ap (λ m. m.late) (unit_rested units s) ∙ lates s);
  so_far = refl;
}

-- At start.
pub begins : (p : Plan) (r : Patch) (reel : Tracks) (units : List (Meaning Frame)) → KeepsRules p → RackLaws units → OurPatch p units r
    → Stands p r reel 0 (deck (map rested units) silent_tape) []
begins p r reel units rules laws ours =
    let one = one_under p units reel (place_in (ordered_nodes r)) rules laws ours.ordered (delay_of r) in
    from_rest p r reel units units one.0 rules laws ours one.1 laws (λ s. refl) (λ s. refl)

-- After k frames more.
pub plays_on : (p : Plan) (r : Patch) (reel : Tracks) (n : ℕ) (d : Deck) (heard : List Frame) → Stands p r reel n d heard → (k : ℕ)
    → Stands p r reel (n + k) (after_frames p (ordered_nodes r) (delay_of r) reel k n d) (heard ++ frames_out p (ordered_nodes r) (delay_of r) reel k n d)
plays_on p r reel n d heard s k =
    let more =
    plays p s.rack reel (ordered_nodes r) (place_in (ordered_nodes r)) (delay_of r) s.y s.rules s.laws
    (in_order p s.rack r s.rules s.ours) (short p s.rack r s.ours) s.under k n d (some_node p s.rack s.ours.clear) s.follows in
    let e : pos n ≡ pos 0 +ℤ pos n = omega (arith, ints) in
    record {
      rack = s.rack;
      y = s.y;
      rules = s.rules;
      laws = s.laws;
      ours = s.ours;
      under = s.under;
      follows = more.1;
      so_far = ap₂ ◌++◌ s.so_far (more.0 ∙ ap (λ b. span (s.y 0) b k) e) ∙ span_append (s.y 0) (pos 0) n k;
    }

-- After a rewind.
pub rewinds : (p : Plan) (r : Patch) (reel : Tracks) (n : ℕ) (d : Deck) (heard : List Frame) → Stands p r reel n d heard
    → Stands p r reel 0 (deck (map rested d.units) silent_tape) []
rewinds p r reel n d heard s =
    from_rest p r reel s.rack d.units s.y s.rules s.laws s.ours s.under s.follows.laws s.follows.voices s.follows.lates

-- A span has as many values as it should.
span_length : (x : Signal Frame) (b : ℤ) (k : ℕ) → length (span x b k) ≡ k
span_length x b zero = refl
span_length x b (suc k) = ap suc (span_length x (b +ℤ pos 1) k)

module _ (p : Plan) (r : Patch) (reel : Tracks) (n : ℕ) (d : Deck) (heard : List Frame) (s : Stands p r reel n d heard) where
  -- our arrivals
  abbrev arrival : ℕ → ℕ
  arrival = latest_start p (late_of r)

  -- the units are as late as at start
  as_late : (o : Option ℕ) → unit_late d.units o ≡ unit_late s.rack o
  as_late None = refl
  as_late (Some u) = s.follows.lates u

  -- and give what they gave
  as_given : (o : Option ℕ) (x : Signal Frame) (m : ℤ) (f : Frame) → Gives s.rack (λ _. 0) o x m f → Gives d.units (λ _. 0) o x m f
  as_given None x m f g = g
  as_given (Some u) x m f g = λ b k e q. g b k e q ∙ ap (λ voice. last_frame (voice (span x b (suc k)))) (sym (s.follows.voices u))

  -- so they give the same signals under the patch
  under_now : Under p d.units reel (delay_of r) s.y
  under_now = record { begins = s.under.begins; follows = λ v m l. as_given (node p v).unit _ m _ (s.under.follows v m l) }

  -- the patch is aligned with them
  aligned_now : Aligned p d.units (delay_of r) arrival
  aligned_now = record {
    meets = λ i b. omega (arith, s.ours.aligned.meets i b, as_late (node p (line p i).start).unit);
    alone = s.ours.aligned.alone;
  }

  -- and its latenesses are those under it
  late_now : (v : ℕ) → v < length p.nodes → lateness p d.units arrival v ≡ late_of r v
  late_now v l = omega (arith, s.ours.under v l, as_late (node p v).unit)

  -- which `lateness` answers
  answers_now : (v : ℕ) → v < length p.nodes → lateness_answer r v ≡ Ok (lateness p d.units arrival v)
  answers_now v l = cond-true _ _ _ (lt-ltb v (length (latenesses r)) (omega (arith, s.ours.each_late))) ∙ ap Ok (sym (late_now v l))

  -- under an aligned patch the output is the mix, later by its lateness there
  mix_now : (delay other : ℕ → ℕ) → Aligned p d.units delay other → (x y : ℕ → Signal Frame) → Ideal p d.units reel x
      → Under p d.units reel delay y → (m : ℤ) → y 0 m ≡ x 0 (m -ℤ pos (lateness p d.units other 0))
  mix_now delay other aligned x y ideal under m =
      aligned_is_ideal p d.units reel (place_in (ordered_nodes r)) s.rules s.follows.laws s.ours.ordered delay other aligned x y ideal under 0 m
      (some_node p s.rack s.ours.clear)

  -- a rival gives the same mix, and has no node less late
  rival : (x : ℕ → Signal Frame) → Ideal p d.units reel x → (delay other : ℕ → ℕ) → Aligned p d.units delay other
      → Rival p d.units reel x arrival delay other
  rival x ideal delay other aligned = record {
    one = one_under p d.units reel (place_in (ordered_nodes r)) s.rules s.follows.laws s.ours.ordered delay;
    same_mix = λ y under m. mix_now delay other aligned x y ideal under m;
    no_less_late = λ v l.
        omega (
          arith,
          late_now v l,
          ours_is_least p d.units (place_in (ordered_nodes r)) (late_of r) s.rules s.ours.ordered
              (λ v l. omega (arith, s.ours.late v l, as_late (node p v).unit)) delay other aligned v l,
        );
  }

  -- what was heard is the mix, later
  heard_mix : (x : ℕ → Signal Frame) → Ideal p d.units reel x
      → heard ≡ span (x 0) (pos 0 -ℤ pos (lateness p d.units arrival 0)) (length heard)
  heard_mix x ideal =
      let late = lateness p d.units arrival 0 in
      let long : length heard ≡ n = ap length s.so_far ∙ span_length (s.y 0) (pos 0) n in
      s.so_far
      ∙ span_same (s.y 0) (x 0) (pos 0) (pos 0 -ℤ pos late)
      (λ j. mix_now (delay_of r) arrival aligned_now x s.y ideal under_now (pos 0 +ℤ pos j) ∙ ap (x 0) (omega (arith, ints))) n
      ∙ ap (span (x 0) (pos 0 -ℤ pos late)) (sym long)

  -- The promise.
  pub claims : Promise p r d.units reel heard
  claims =
      let one = one_ideal p d.units reel (place_in (ordered_nodes r)) s.rules s.follows.laws s.ours.ordered in (
        one.0,
        arrival,
        record {
          ideal = one.1;
          only = one.2;
          aligned = aligned_now;
          answers = answers_now;
          mix = heard_mix one.0 one.1;
          rivals = rival one.0 one.1;
        },
      )
