-- A run of every plan whose nodes can be placed.
use Rattle.std.proofs.Common.{◌≡◌, ℕ, ◌+◌, ◌<◌, ◌≤◌, List, length, ℤ, pos, ◌+ℤ◌, ◌-ℤ◌, neg_ℤ, Some, None, Option, refl, ap, ◌∙◌, ap₂, arith}
use mathlib.Core.Path.{fun_ext, subst⁻¹}
use Rattle.frames.specs.Samples.{silence}
use Rattle.frames.specs.declared.samples.Frame.{Frame}
use Rattle.racks.specs.Rack.{RackLaws, unit}
use Rattle.reels.specs.Tracks.{Tracks}
use Rattle.session.specs.Plan.{KeepsRules, Plan, line, lines_into, node}
use Rattle.signals.proofs.Agreement.{ahead_of, runs_same}
use Rattle.signals.proofs.Inputs.{SilentUntil, input_same, input_silent, silent_lead}
use Rattle.signals.proofs.Lines.{EachInto, all_lines, at_most_greatest, each_line, greatest_same}
use Rattle.signals.proofs.Listening.{made, made_makes, made_silent}
use Rattle.signals.proofs.Order.{LooksBack, from_starts, meets_rule, settled}
use Rattle.signals.proofs.Units.{unit_lawful}
use Rattle.signals.specs.Patches.{Ordered}
use Rattle.signals.specs.Signals.{Gives, Runs, Signal, input}
use Rattle.signals.specs.Theorems.{OneIdeal, OneUnder, SameSignals}
use Rattle.std.proofs.lemmas.Int.{ints}
use Rattle.voices.specs.Kinds.{greatest}
use Rattle.voices.specs.Meaning.{Meaning}

-- What a node gives of an input that is silent until `lead` frames before 0.
abbrev answered : List (Meaning Frame) → (Meaning Frame → ℕ) → Option ℕ → Signal Frame → ℕ → Signal Frame
answered rack ahead None x lead n = x n
answered rack ahead (Some s) x lead n = made (unit rack s) x (neg_ℤ (pos lead)) (n +ℤ pos (ahead (unit rack s)))

answered_gives : (rack : List (Meaning Frame)) → RackLaws rack → (ahead : Meaning Frame → ℕ) (o : Option ℕ) (x : Signal Frame) (lead : ℕ)
    → SilentUntil x lead
    → (n : ℤ) → Gives rack ahead o x n (answered rack ahead o x lead n)
answered_gives rack laws ahead None x lead s n = refl
answered_gives rack laws ahead (Some u) x lead s n =
    made_makes silence (unit rack u) (unit_lawful rack laws u) x (neg_ℤ (pos lead)) s (n +ℤ pos (ahead (unit rack u)))

answered_silent : (rack : List (Meaning Frame)) → RackLaws rack → (ahead : Meaning Frame → ℕ) (o : Option ℕ) (x : Signal Frame) (lead : ℕ)
    → SilentUntil x lead
    → SilentUntil (answered rack ahead o x lead) (lead + ahead_of rack ahead o)
answered_silent rack laws ahead None x lead s n h = s n (omega (arith, ints))
answered_silent rack laws ahead (Some u) x lead s n h =
    made_silent silence (unit rack u) (unit_lawful rack laws u) x (neg_ℤ (pos lead)) s (n +ℤ pos (ahead (unit rack u))) (omega (arith, ints))

-- A node's signal, and how many frames before 0 it is silent until.
record Begun : Type 0 where
  signal : Signal Frame
  lead : ℕ

module _ (p : Plan) (rack : List (Meaning Frame)) (reel : Tracks) (delay : ℕ → ℕ) (ahead : Meaning Frame → ℕ) where
  abbrev lead_in : (ℕ → Begun) → ℕ → ℕ
  lead_in f v = greatest (λ i. (f (line p i).start).lead) (lines_into p v)

  abbrev heard_in : (ℕ → Begun) → ℕ → Signal Frame
  heard_in f v = input p reel delay (λ u. (f u).signal) v (node p v).source

  abbrev run_rule : (ℕ → Begun) → ℕ → Begun
  run_rule f v = record {
    signal = answered rack ahead (node p v).unit (heard_in f v) (lead_in f v);
    lead = lead_in f v + ahead_of rack ahead (node p v).unit;
  }

  run_looks : LooksBack p run_rule
  run_looks f g v h =
      ap₂ (λ x k. record { signal = answered rack ahead (node p v).unit x k; lead = k + ahead_of rack ahead (node p v).unit })
      (fun_ext (λ n.
      input_same p reel delay delay (λ u. (g u).signal) (λ u. (f u).signal) v 0 (node p v).source (λ _ _. refl)
      (λ i b e k. ap (λ z. z.signal (k -ℤ pos (delay i))) (h i b e) ∙ ap (g (line p i).start).signal (omega (arith, ints))) n
      ∙ ap (heard_in g v) (omega (arith, ints))))
      (greatest_same (λ i. (f (line p i).start).lead) (λ i. (g (line p i).start).lead) (lines_into p v)
      (all_lines p v (λ i. (f (line p i).start).lead ≡ (g (line p i).start).lead) (λ i b e. ap (λ z. z.lead) (h i b e))))

  module _ (place : ℕ → ℕ) (rules : KeepsRules p) (laws : RackLaws rack) (order : Ordered p place) where
    abbrev found : ℕ → Begun
    found = settled place (record { signal = λ _. silence; lead = 0 }) run_rule

    found_is : (v : ℕ) → found v ≡ run_rule found v
    found_is = meets_rule p place order (record { signal = λ _. silence; lead = 0 }) run_rule run_looks

    input_begun : (v : ℕ) → EachInto p v (λ i. SilentUntil (found (line p i).start).signal (found (line p i).start).lead)
        → SilentUntil (heard_in found v) (lead_in found v)
    input_begun v h =
        input_silent p reel delay (λ u. (found u).signal) v (lead_in found v)
        (all_lines p v (λ i. SilentUntil (found (line p i).start).signal (lead_in found v)) (λ i b e.
        let most = each_line p v (λ j. (found (line p j).start).lead ≤ lead_in found v)
        (at_most_greatest (λ j. (found (line p j).start).lead) (lines_into p v)) i b e in
        silent_lead (found (line p i).start).signal (found (line p i).start).lead (lead_in found v) (h i b e) (omega arith)))
        (node p v).source

    begun : (v : ℕ) → v < length p.nodes → SilentUntil (found v).signal (found v).lead
    begun = from_starts p place rules order (λ v. SilentUntil (found v).signal (found v).lead) (λ v l before.
        subst⁻¹ (λ z. SilentUntil z.signal z.lead) (found_is v)
        (answered_silent rack laws ahead (node p v).unit (heard_in found v) (lead_in found v) (input_begun v before)))

    -- There is one run, and one only.
    pub one_run : (x : ℕ → Signal Frame) × Runs p rack reel delay ahead x
        × ((y : ℕ → Signal Frame) → Runs p rack reel delay ahead y → SameSignals p y x)
    one_run =
        let runs : Runs p rack reel delay ahead (λ u. (found u).signal) = record {
          begins = λ v l. (neg_ℤ (pos (found v).lead), begun v l);
          follows = λ v n l.
              subst⁻¹ (λ z. Gives rack ahead (node p v).unit (heard_in found v) n (z.signal n)) (found_is v)
              (answered_gives rack laws ahead (node p v).unit (heard_in found v) (lead_in found v)
              (input_begun v (λ i b e. begun (line p i).start (rules.starts i b))) n);
        } in
        ((λ u. (found u).signal), runs, λ y other. runs_same p rack reel place rules order delay ahead (λ u. (found u).signal) y runs other)

pub one_ideal : OneIdeal
one_ideal p rack reel place rules laws order = one_run p rack reel (λ _. 0) (λ m. m.late) place rules laws order

pub one_under : OneUnder
one_under p rack reel place rules laws order delay = one_run p rack reel delay (λ _. 0) place rules laws order
