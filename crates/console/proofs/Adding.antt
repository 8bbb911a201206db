-- The lines into a node, one after the other.
use Rattle.std.proofs.Common.{◌≡◌, ℕ, ◌+◌, ◌<◌, ◌≤◌, Bool, cond, eqb, ltb, List, [], ◌∷◌, ◌++◌, map, length, ◌+ℤ◌, sym, ap, ◌∙◌, subst, arith, length-append}
use Rattle.console.specs.Desks.{desk_plan}
use Rattle.console.specs.declared.desks.Desk.{Desk}
use Rattle.frames.proofs.Totals.{adds_one, AddsUp}
use Rattle.frames.specs.Buses.{left_of, right_of}
use Rattle.frames.specs.declared.samples.Part.{Part}
use Rattle.frames.specs.declared.sums.Sum.{Sum}
use Rattle.session.specs.Plan.{line, lines_into}
use Rattle.signals.proofs.Lines.{all_lines}
use Rattle.std.proofs.lemmas.List.FromFn.{length-range_with_len}
use Rattle.std.proofs.lemmas.List.{append_assoc, length-map, map-append}
use Rattle.std.proofs.lemmas.List.Sums.{count_by-le-length, length-filter}
use Rattle.std.specs.List.{range_with_len, AllByRecursion}

-- a node has at most 48 lines in
few_into : (d : Desk) (v : ℕ) → length (lines_into (desk_plan d) v) ≤ 48
few_into d v =
    let all = range_with_len 0 (length (desk_plan d).lines) in
    omega (
      arith,
      length-filter (λ i. eqb (line (desk_plan d) i).end v) all,
      count_by-le-length (λ i. eqb (line (desk_plan d) i).end v) all,
      length-range_with_len 0 (length (desk_plan d).lines),
      d.few.1,
    )

-- the sum holds what some of the lines into v bring, and the others are left
pub record Adding (d : Desk) (make : ℕ → Part) (v : ℕ) (sum : Sum) (rest : List ℕ) : Type 0 where
  pub done : List ℕ
  pub all : done ++ rest ≡ lines_into (desk_plan d) v
  pub inside : AllByRecursion (λ i. i < length d.lines.items) rest
  pub added : AddsUp sum (map make done)

pub adds_first : (d : Desk) (make : ℕ → Part) (v : ℕ) (sum : Sum) (rest : List ℕ) → rest ≡ lines_into (desk_plan d) v → AddsUp sum [] → Adding d make v sum rest
adds_first d make v sum rest e a = record {
  done = [];
  all = e;
  inside = subst (AllByRecursion (λ i. i < length d.lines.items)) (sym e) (all_lines (desk_plan d) v (λ i. i < length d.lines.items) (λ i b e. b));
  added = a;
}

-- one line more is added
pub adds_next : (d : Desk) (make : ℕ → Part) (v : ℕ) (sum more : Sum) (room : Bool) (left rest : List ℕ) (i : ℕ) (part : Part) → left ≡ i ∷ rest → part ≡ make i → Adding d make v sum left
    → room ≡ ltb sum.lines 48
    → more.left ≡ cond room (sum.left +ℤ left_of part) sum.left
    → more.right ≡ cond room (sum.right +ℤ right_of part) sum.right
    → more.lines ≡ cond room (sum.lines + 1) sum.lines
    → Adding d make v more rest
adds_next d make v sum more room left rest i part e is b r l q n =
    let a : Adding d make v sum (i ∷ rest) = subst (Adding d make v sum) e b in
    let few : length (map make a.done) < 48 =
    omega (arith, length-map a.done make, length-append a.done (i ∷ rest), ap length a.all, few_into d v) in
    record {
      done = a.done ++ i ∷ [];
      all = append_assoc a.done (i ∷ []) rest ∙ a.all;
      inside = a.inside.1;
      added = subst (AddsUp more) (ap (λ f. map make a.done ++ f ∷ []) is ∙ sym (map-append make a.done (i ∷ [])))
          (adds_one sum more (map make a.done) part room a.added few r l q n);
    }
