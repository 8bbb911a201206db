-- Every number of a lawful rack stands for a lawful unit.
use Rattle.std.proofs.Common.{ℕ, ◌+◌, List, ◌++◌, length, replicate, sym, ap, ◌∙◌, subst, inl, inr, arith}
use Rattle.frames.specs.Samples.{silence}
use Rattle.frames.specs.declared.samples.Frame.{Frame}
use Rattle.racks.specs.Rack.{RackLaws, no_unit, unit}
use Rattle.std.proofs.lemmas.List.{get_or_past, length-append, length-replicate, replicate-append-replicate, take-replicate}
use Rattle.std.proofs.lemmas.Bool.{cases_lt}
use Rattle.voices.specs.Meaning.{Lawful, Meaning}

no_unit_lawful : Lawful silence no_unit
no_unit_lawful = record {
  late_bound = omega arith;
  voice_length = λ x. length-replicate (length x) silence;
  present_length = λ x. length-replicate (length x) silence;
  voice_begins = λ x y. take-replicate (length x) (length (x ++ y)) silence (omega (arith, length-append x y));
  voice_waits = λ k x.
      ap (λ n. replicate n silence) (length-append (replicate k silence) x ∙ ap (λ n. n + length x) (length-replicate k silence))
      ∙ sym (replicate-append-replicate k (length x) silence);
}

pub unit_lawful : (rack : List (Meaning Frame)) → RackLaws rack → (s : ℕ) → Lawful silence (unit rack s)
unit_lawful rack laws s =
    elim (cases_lt s (length rack)) [
      | inl h ↦ laws.each s h
      | inr h ↦ subst (Lawful silence) (sym (get_or_past rack s no_unit h)) no_unit_lawful
    ]
