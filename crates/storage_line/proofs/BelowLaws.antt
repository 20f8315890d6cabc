-- From the line of the type in all extensions, and what was written for it, to what is left of the walk: the types below it stand next, and are visited or
-- skipped. For any step. Assumes nothing.
use mathlib.Core.Path.{◌≡◌, refl, sym, ap, subst, ◌∙◌}
use mathlib.Core.Bool.{Bool, true, false}
use mathlib.Core.List.{List, [], ◌++◌}
use Rattle.std.specs.Prelude.{Option, Some, None}
use Prim.Native.Nat.{ℕ, ◌+◌, ◌-◌, ◌*◌, ◌≤◌, ◌<◌}
use native.Mathlib.Omega.{arith}
use lib.ListN.{length, drop}
use Rattle.sheets.specs.Bytes.{Bytes}
use Rattle.sheets.specs.Answer.{Answer, given, found}
use Rattle.sheets.specs.Field.{Info, ArrowDataType, scalar, nested, grouped, dictionary, extension}
use Rattle.sheets.specs.FieldSheet.{Entry}
use Rattle.sheets.specs.LineTrees.{Standing}
use Rattle.sheets.specs.FieldTrees.{Head, is_extension, type_shape, type_below, entry_lines, fields}
use Rattle.sheets.specs.Mappings.{to_storage}
use Rattle.sheets.specs.Walk.{Below, visit, skip, Step, Walked, extensions_around, line_walked, row_walked}
use Rattle.read_field_line.specs.declared.FieldLine.{FieldLine}
use Rattle.field_sheet.specs.Subtrees.{SkipsRow}
use Rattle.outcome.specs.declared.Size.{Size}
use Rattle.walks.specs.Places.{own_limit, TypeAt, RowAt, Owns, Begins}
use Rattle.walks.specs.declared.Subtree.{Subtree}
use Rattle.walks.specs.declared.Subtrees.{Subtrees}
use Rattle.walks.proofs.BeginLaws.{row_inside, row_inside_smaller, some_level, begin_visit, begin_skip}
use Rattle.line_below.proofs.LineLaws.{line_opened, line_count}
use Rattle.storage_line.specs.StorageLines.{StorageAt}
use Rattle.storage_line.specs.Below.{row_from, EndsBelow, RowLeft, HasBelow}
use Rattle.sheets.specs.Refusal.{too_deep}
use Rattle.storage_line.specs.declared.StorageLine.{StorageLine}

-- ── the types below are skipped

module _ (s : Bytes) (l : FieldLine) (levels : ℕ) (r : Option ℕ) (k : SkipsRow s l.end l.children false levels (found too_deep r)) where
  told_as : (q : Option ℕ) → r ≡ q → SkipsRow s l.end l.children false levels (found too_deep q)
  told_as q e = subst (λ (y : Option ℕ). SkipsRow s l.end l.children false levels (found too_deep y)) e k

  pub skipped_to : (next : ℕ) → r ≡ Some next → EndsBelow s l levels next
  skipped_to next e us es w =
      let h = told_as (Some next) e us es w.stands w.counted in
      (h.1, h.2, h.3)

  -- none has more levels
  pub skipped_deep : r ≡ None → (next : ℕ) → EndsBelow s l levels next
  skipped_deep e next us es w = absurd (omega (arith, (told_as None e).1 us es w.stands w.counted, w.deep))

-- ── the type in all extensions is none

pub storage_plain : (t : ArrowDataType) → is_extension (type_shape (to_storage t)) ≡ false
storage_plain (scalar s) = refl
storage_plain (nested n j t) = refl
storage_plain (grouped g fs) = refl
storage_plain (dictionary ix ordered t) = refl
storage_plain (extension n m t) = storage_plain t

-- ── what is left

-- what is done with the types us below a line: they are visited; there are none; or they are skipped
pub data Leaves {S : Type 0} (σ : S) (us : List Entry) (below : Below S) (skipped : Bool) : Type 0 where
  visited : below ≡ visit σ → skipped ≡ false → Leaves σ us below skipped
  nothing : below ≡ skip → skipped ≡ false → us ≡ [] → Leaves σ us below skipped
  passed : below ≡ skip → skipped ≡ true → Leaves σ us below skipped

module _ {s : Bytes} (tree : Subtree) {i : Option Info} {t : ArrowDataType} {es : List Entry} (f : TypeAt s tree.at tree.levels tree.inside i t es)
    {r : StorageLine} (g : StorageAt s tree t es r) where
  abbrev l : FieldLine
  l = r.line

  abbrev below : List Entry
  below = type_below (to_storage t)

  pub row : RowAt s l.end l.children (tree.levels - 1) false below es
  row =
      subst (λ (n : ℕ). RowAt s l.end n (tree.levels - 1) false below es) (sym (line_count g.type.stands g.line))
      (row_inside f l.end (line_opened g.type.stands g.line).1 g.line.there.high (storage_plain t))

  pub row_there : HasBelow s tree l
  row_there = (some_level f, (below, es, row))

  -- no more lines are passed than there are bytes
  pub passed_few : r.passed < 65536
  passed_few = omega (arith, g.low, g.line.there.low, g.line.there.high, f.short)

  -- its own is written, and these types are left
  module _ {S : Type 0} (step : S → Head → Answer (Step S)) (σ : S) (o : Walked) (p : Step S) (opened : o ≡ line_walked (extensions_around t) (given p) (λ τ. row_walked step below τ) (entry_lines below))
      (skipped : Bool) (w : Subtrees) (left : RowLeft s tree l skipped w) (old out : Bytes) (len : ℕ) (pending : Answer (Unit {0})) (owns : Owns p.own pending len old out) (short : len ≤ own_limit) where
    -- the line, and those that were passed
    abbrev sized : Size
    sized = record { len = len; lines = r.passed + 1 }

    abbrev BegunAt : Subtrees → Type 0
    BegunAt y =
        Begins step s tree.at tree.levels tree.inside o es old out
        (record { from = y.at; count = y.count; levels = y.levels; inside = y.inside; state = σ; size = sized; pending = pending })

    long : (next : ℕ) → l.end ≤ next → len + own_limit * tree.at ≤ own_limit * next
    long next k = omega (arith, short, k, g.low, g.line.there.low)

    fewer : (next : ℕ) → l.end ≤ next → r.passed + tree.at < next
    fewer next k = omega (arith, k, g.low, g.line.there.low)

    -- as many as stand around the type
    passed_opened : o ≡ line_walked r.passed (given p) (λ τ. row_walked step below τ) (entry_lines below)
    passed_opened = opened ∙ ap (λ (n : ℕ). line_walked n (given p) (λ τ. row_walked step below τ) (entry_lines below)) (sym g.passed)

    at_row : (x : Bool) → skipped ≡ x → RowLeft s tree l x w
    at_row x q = subst (λ (b : Bool). RowLeft s tree l b w) q left

    none_left : p.below ≡ skip → (next : ℕ) → Standing fields (drop next s) es → l.end ≤ next → next ≤ length s → BegunAt (row_from next 0 (tree.levels - 1))
    none_left v next d low high =
        begin_skip step s tree.at tree.levels tree.inside o p below es r.passed passed_opened σ next (tree.levels - 1) false (row_inside_smaller f) d high f.short (fewer next low) v old out len pending owns (long next low)

    pub begun : Leaves σ below p.below skipped → BegunAt w
    begun (visited v q) =
        subst BegunAt (sym (at_row false q))
        (begin_visit step s tree.at tree.levels tree.inside o p below es r.passed passed_opened σ v l.end l.children (tree.levels - 1) false row (row_inside_smaller f) old out len pending owns (long l.end (omega arith)) (fewer l.end (omega arith)))
    begun (nothing v q n) =
        let zero : l.children ≡ 0 = sym row.counted ∙ ap length n in
        subst BegunAt (sym (at_row false q ∙ ap (λ (c : ℕ). row_from l.end c (tree.levels - 1)) zero)) (none_left v l.end (subst (λ (us : List Entry). Standing fields (drop l.end s) (us ++ es)) n row.stands) (omega arith) g.line.there.high)
    begun (passed v q) =
        let d = at_row true q in
        let k = d.2 below es row in
        subst BegunAt (sym d.1) (none_left v d.0 k.0 k.1 k.2)
