-- That the racks of this crate keep the laws of a rack: proofs, which no reader of the definitions needs.
use Rattle.std.specs.Prelude.{◌≡◌, ℕ, zero, suc, ◌+◌, ◌-◌, ◌<◌, List, [], ◌∷◌, ◌++◌, length, take, refl}
use Rattle.std.proofs.Common.{⊎_elim, sym, ◌∙◌, subst, arith}
use Rattle.frames.specs.Samples.{silence}
use Rattle.frames.specs.declared.samples.Frame.{Frame}
use Rattle.racks.specs.Rack.{no_unit, RackLaws, unit}
use Rattle.std.proofs.lemmas.List.{get_or_append_left, get_or-append_right, get_or-take, length-append, length-take}
use Rattle.std.proofs.lemmas.Bool.{cases_lt}
use Rattle.voices.specs.Meaning.{Lawful, Meaning}

pub single_lawful : (m : Meaning Frame) → Lawful silence m → RackLaws (m ∷ [])
single_lawful m l = record { few = omega arith; each = first }
  where
    first : (s : ℕ) → s < 1 → Lawful silence (unit (m ∷ []) s)
    first zero h = l
    first (suc s) h = absurd (omega arith)

pub pair_lawful : (us vs : List (Meaning Frame)) → RackLaws us → RackLaws vs → RackLaws (take 16 (us ++ vs))
pair_lawful us vs l k = record { few = simp length-take (omega arith); each = both }
  where
    inside : (s : ℕ) → s < length (take 16 (us ++ vs)) → (s < 16) × (s < length us + length vs)
    inside s h = let e = length-take 16 (us ++ vs) in let f = length-append us vs in (omega arith, omega arith)

    both : (s : ℕ) → s < length (take 16 (us ++ vs)) → Lawful silence (unit (take 16 (us ++ vs)) s)
    both s h =
        let i = inside s h in
        let cut : unit (take 16 (us ++ vs)) s ≡ unit (us ++ vs) s = get_or-take 16 (us ++ vs) s no_unit i.0 in
        ⊎_elim
        (λ a. subst (Lawful silence) (sym (cut ∙ get_or_append_left us vs no_unit s a)) (l.each s a))
        (λ b. subst (Lawful silence) (sym (cut ∙ get_or-append_right us vs (length us) s no_unit refl b)) (k.each (s - length us) (omega arith)))
        (cases_lt s (length us))
