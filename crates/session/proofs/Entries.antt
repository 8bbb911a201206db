-- The table of settings, entry by entry, in plain numbers.
use Rattle.std.proofs.Common.{◌≡◌, ℕ, ◌<◌, ◌≤◌, true, List, map, length, get_or, set, ℤ, is_some, Some, sym, refl, ap, ◌∙◌, ap₂, ⊎_elim, arith}
use Rattle.session.specs.Contents.{Effect, fir, limit, pan, delay, Entry, bare, bypassed, effect, entry, fits_unit, set_entry, trimmed}
use Rattle.session.specs.declared.settings.Kind.{Kind}
use Rattle.session.specs.declared.settings.Setting.{Setting}
use Rattle.std.proofs.lemmas.List.{get_or-map, get_or_past, length-map, map-set}
use Rattle.std.proofs.lemmas.Bool.{and_parts, both_ways, cases_lt, ltb-true}

-- the entry of a unit of the table
entry_read : (es : List Setting) (s : ℕ) (d : Setting) → s < length es → get_or (map entry es) s bare ≡ entry (get_or es s d)
entry_read es s d h = get_or-map entry es s d bare h

-- past the table there is nothing
entry_past : (es : List Setting) (s : ℕ) → length es ≤ s → get_or (map entry es) s bare ≡ bare
entry_past es s h = get_or_past (map entry es) s bare (rw (length-map es entry) h)

-- a unit that is set is one of the table's
pub set_below : (es : List Setting) (s : ℕ) → length es ≡ 8 → is_some (get_or (map entry es) s bare).set_to ≡ true → s < 8
set_below es s l h = ⊎_elim (λ lt. lt) (λ ge. absurd (both_ways _ (ap (λ e. is_some e.set_to) (entry_past es s (rw l ge))) h)) (cases_lt s 8)

-- a kind is for units 0 to 7 only
pub fits_below : (s : ℕ) (k : Effect) → fits_unit s k ≡ true → s < 8
fits_below s (fir taps count) e = omega (arith, ltb-true s 2 e)
fits_below s (limit lookahead ceiling) e = omega (arith, ltb-true s 4 (and_parts _ _ e).1)
fits_below s (pan position) e = omega (arith, ltb-true s 6 (and_parts _ _ e).1)
fits_below s (delay frames) e = omega (arith, ltb-true s 8 (and_parts _ _ e).1)

-- one entry written
module _ (es : List Setting) (i s : ℕ) (d : Setting) (e : i ≡ s) (eight : length es ≡ 8) where
  written : s < 8 → (x : Setting) (change : Entry → Entry) → entry x ≡ change (entry (get_or es i d)) → map entry (set es i x) ≡ set (map entry es) s (change (get_or (map entry es) s bare))
  written b x change q =
      let l : s < length es = omega arith in
      map-set entry es i x ∙ ap₂ (set (map entry es)) e (q ∙ ap change (ap (λ j. entry (get_or es j d)) e ∙ sym (entry_read es s d l)))

  pub after_kind : (k : Kind) → fits_unit s (effect k) ≡ true
      → map entry (set es i (record (get_or es i d) { kind = Some k })) ≡ set (map entry es) s (record (get_or (map entry es) s bare) { set_to = Some (effect k) })
  after_kind k f = written (fits_below s (effect k) f) _ (λ y. set_entry y (effect k)) refl

  pub after_trim : (g h : ℤ) → g ≡ h → is_some (get_or (map entry es) s bare).set_to ≡ true
      → map entry (set es i (record (get_or es i d) { trim = Some g })) ≡ set (map entry es) s (record (get_or (map entry es) s bare) { trim = Some h })
  after_trim g h q f = written (set_below es s eight f) _ (λ y. trimmed y h) (ap (λ z. trimmed (entry (get_or es i d)) z) q)

  pub after_bypass : is_some (get_or (map entry es) s bare).set_to ≡ true
      → map entry (set es i (record (get_or es i d) { bypass = true })) ≡ set (map entry es) s (record (get_or (map entry es) s bare) { bypass = true })
  after_bypass f = written (set_below es s eight f) _ bypassed refl
