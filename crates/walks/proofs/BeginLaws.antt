-- From a line that was read to what is left of its walk: what is below is visited, skipped or copied. What is to be written is o, whose line's step was p
-- over the row us, after so many lines that were passed: `walked_opened` says it of a type, `export_opened` of a type in extensions. Assumes nothing.
use mathlib.Core.Path.{◌≡◌, refl, sym, ap, ◌∙◌}
use mathlib.Core.Bool.{Bool, true, false}
use mathlib.Core.List.{List, [], ◌++◌, append-nil}
use Rattle.std.specs.Prelude.{Option, None}
use Prim.Native.Nat.{ℕ, suc, ◌+◌, ◌-◌, ◌*◌, ◌≤◌, ◌<◌}
use native.Mathlib.Omega.{arith}
use lib.ListN.{length, drop}
use Rattle.sheets.specs.Bytes.{Bytes}
use Rattle.sheets.specs.Answer.{Answer, refused, given, ◌>>=◌}
use Rattle.sheets.specs.Field.{Info, ArrowDataType}
use Rattle.sheets.specs.FieldSheet.{Entry}
use Rattle.sheets.specs.LineTrees.{tallest, Standing}
use Rattle.sheets.specs.FieldTrees.{Head, is_extension, type_shape, type_count, type_below, entry_levels, entry_lines, fields}
use Rattle.sheets.specs.Mappings.{to_storage}
use Rattle.sheets.specs.Walk.{levels_below, line_measure, row_measure, Below, visit, copy, skip, Step, Walked, below_written, below_visits, line_walked, row_walk, row_visits, row_walked}
use Rattle.sheets.proofs.FieldTrees.{fields_lawful, levels_some}
use Rattle.sheets.proofs.WalkLaws.{levels_below_lem, row_falls}
use Rattle.sheets.proofs.StorageLaws.{storage_levels}
use Rattle.outcome.specs.declared.Size.{Size}
use Rattle.walks.specs.Places.{own_limit, TypeAt, RowAt, Owns, Begins}

-- ── the row below a line, from where on it stands

module _ {s : Bytes} {at levels : ℕ} {inside : Bool} {i : Option Info} {t : ArrowDataType} {es : List Entry} (f : TypeAt s at levels inside i t es) where
  -- every type has a level
  pub some_level : 1 ≤ levels
  some_level = omega (arith, f.deep, levels_some inside t)

  -- of a type
  pub row_below : (from : ℕ) → Standing fields (drop from s) (type_below t ++ es) → from ≤ length s
      → RowAt s from (type_count t) (levels_below (type_shape t) inside levels) (is_extension (type_shape t)) (type_below t) es
  row_below from d high = record { stands = d; counted = fields_lawful.many (i, t); deep = levels_below_lem t inside levels f.deep; within = high; short = f.short }

  pub row_smaller : row_measure (levels_below (type_shape t) inside levels) (is_extension (type_shape t)) < line_measure levels inside
  row_smaller = row_falls (type_shape t) inside levels some_level

  -- of the type in all extensions: it is none itself, so what is below it stands in none
  module _ (from : ℕ) where
    pub row_inside : Standing fields (drop from s) (type_below (to_storage t) ++ es) → from ≤ length s → is_extension (type_shape (to_storage t)) ≡ false
        → RowAt s from (type_count (to_storage t)) (levels - 1) false (type_below (to_storage t)) es
    row_inside d high e =
        let low : tallest (entry_levels (is_extension (type_shape (to_storage t)))) (type_below (to_storage t)) ≤ levels_below (type_shape (to_storage t)) false levels =
        levels_below_lem (to_storage t) false levels (omega (arith, f.deep, storage_levels t inside)) in
        record { stands = d; counted = fields_lawful.many (None, to_storage t); deep = rw e at low; within = high; short = f.short }

  pub row_inside_smaller : row_measure (levels - 1) false < line_measure levels inside
  row_inside_smaller = go inside
    where
      go : (b : Bool) → row_measure (levels - 1) false < line_measure levels b
      go true = omega (arith, some_level)
      go false = omega (arith, some_level)

-- ── what is left

module _ {S : Type 0} (step : S → Head → Answer (Step S)) (s : Bytes) (at levels : ℕ) (inside : Bool) (o : Walked) (p : Step S) (us es : List Entry)
    (passed : ℕ) (opened : o ≡ line_walked passed (given p) (λ τ. row_walked step us τ) (entry_lines us)) where
  by_below : (x : Below S) → p.below ≡ x → o.0 ≡ (below_written x (λ τ. row_walk step us τ) (entry_lines us) >>= λ b. p.own >>= λ a. given (a ++ b))
  by_below x e = ap (λ (w : Walked). w.0) opened ∙ ap (λ (y : Below S). below_written y (λ τ. row_walk step us τ) (entry_lines us) >>= λ b. p.own >>= λ a. given (a ++ b)) e

  -- the line itself, and those below it that are visited
  visits_below : (x : Below S) → p.below ≡ x → o.1 ≡ suc (below_visits x (λ τ. row_visits step us τ)) + passed
  visits_below x e = ap (λ (w : Walked). w.1) opened ∙ ap (λ (y : Below S). suc (below_visits y (λ τ. row_visits step us τ)) + passed) e

  -- so many bytes, for the line and those that were passed
  abbrev sized : ℕ → Size
  sized len = record { len = len; lines = passed + 1 }

  pub begin_visit : (τ : S) → p.below ≡ visit τ → (from count left : ℕ) (within : Bool) → RowAt s from count left within us es → row_measure left within < line_measure levels inside
      → (out out' : Bytes) (len : ℕ) (pending : Answer (Unit {0})) → Owns p.own pending len out out' → len + own_limit * at ≤ own_limit * from → passed + at < from
      → Begins step s at levels inside o es out out' (record { from = from; count = count; levels = left; inside = within; state = τ; size = sized len; pending = pending })
  begin_visit τ v from count left within row smaller out out' len pending owns l n =
      record { us = us; own = p.own; row = row; falls = smaller; becomes = by_below (visit τ) v; counts = omega (arith, visits_below (visit τ) v); owns = owns; long = l; few = omega (arith, n) }

  -- after what is below was skipped, or copied: a row of none is left, under any smaller measure
  module _ (τ : S) (next left : ℕ) (within : Bool) (smaller : row_measure left within < line_measure levels inside) (after : Standing fields (drop next s) es) (reach : next ≤ length s) (short : length s ≤ 65535) (n : passed + at < next) where
    none_left : RowAt s next 0 left within [] es
    unfolding tallest
    none_left = record { stands = after; counted = refl; deep = omega arith; within = reach; short = short }

    pub begin_skip : p.below ≡ skip → (out out' : Bytes) (len : ℕ) (pending : Answer (Unit {0})) → Owns p.own pending len out out' → len + own_limit * at ≤ own_limit * next
        → Begins step s at levels inside o es out out' (record { from = next; count = 0; levels = left; inside = within; state = τ; size = sized len; pending = pending })
    begin_skip v out out' len pending owns l =
        record { us = []; own = p.own; row = none_left; falls = smaller; becomes = by_below skip v; counts = omega (arith, visits_below skip v); owns = owns; long = l; few = omega (arith, n) }

    pub begin_copy : p.below ≡ copy → (out out' : Bytes) (len : ℕ) (pending : Answer (Unit {0})) → Owns (p.own >>= λ a. given (a ++ entry_lines us)) pending len out out' → len + own_limit * at ≤ own_limit * next
        → Begins step s at levels inside o es out out' (record { from = next; count = 0; levels = left; inside = within; state = τ; size = sized len; pending = pending })
    begin_copy v out out' len pending owns l =
        record { us = []; own = p.own >>= λ a. given (a ++ entry_lines us); row = none_left; falls = smaller; becomes = by_below copy v ∙ go p.own; counts = omega (arith, visits_below copy v); owns = owns; long = l; few = omega (arith, n) }
      where
        go : (a : Answer (List Bytes)) → (a >>= λ x. given (x ++ entry_lines us)) ≡ ((a >>= λ x. given (x ++ entry_lines us)) >>= λ x. given (x ++ []))
        go (refused r) = refl
        go (given x) = ap given (sym (append-nil (x ++ entry_lines us)))
