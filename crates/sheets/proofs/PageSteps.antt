-- The page line by line (specs/PageSteps) gives the page: the levels left at a line, which a field that was read has, tell the line's level. By cases of the
-- type. Assumes nothing.
use mathlib.Core.Path.{◌≡◌, refl, sym, ap}
use mathlib.Core.Bool.{Bool, true, false, cond}
use mathlib.Core.List.{List, map, map-append}
use Rattle.std.specs.Prelude.{Option, None, Some}
use Prim.Native.Nat.{ℕ, suc, ◌-◌, ◌≤◌}
use native.Mathlib.Omega.{arith}
use borrow.Author.Tests.{leb-true}
use Rattle.sheets.specs.Bytes.{Bytes}
use Rattle.sheets.specs.Answer.{Answer, refused, given, ◌>>=◌}
use Rattle.sheets.specs.Sheet.{level_limit, ended}
use Rattle.sheets.specs.Field.{Info, ArrowDataType, scalar, nested, grouped, dictionary, extension, Fields, nil, add, Field, type_levels, fields_levels, field_levels}
use Rattle.sheets.specs.FieldSheet.{read_field_sheet}
use Rattle.sheets.specs.FieldTrees.{is_extension, line_cost, type_shape}
use Rattle.sheets.specs.Walk.{type_walk, fields_walk}
use Rattle.sheets.specs.Page.{inner_level, type_placed, fields_placed, placed_text, page}
use Rattle.sheets.specs.PageSteps.{level_of, page_step}
use Rattle.sheets.specs.Outcome.{paged}
use Rattle.sheets.proofs.FieldSheetLaws.{field_read}
use Rattle.sheets.proofs.FieldTrees.{levels_some}

-- ── the levels left tell the level

-- what is below a line that is no extension is one level deeper
level_below : (levels : ℕ) (inside : Bool) → 1 ≤ levels → levels ≤ level_limit → level_of (levels - 1) false false ≡ suc (level_of levels inside false)
level_below levels true h k = omega arith
level_below levels false h k = omega arith

-- "An extension's inner line is on its extension's level, unless it is an extension too: then one level deeper"
level_inner : (t : ArrowDataType) (levels : ℕ) (inside : Bool) → 1 ≤ levels → levels ≤ level_limit
    → level_of (levels - line_cost inside true) true (is_extension (type_shape t)) ≡ inner_level (level_of levels inside true) t
level_inner t levels inside h k = go inside (is_extension (type_shape t))
  where
    go : (b e : Bool) → level_of (levels - line_cost b true) true e ≡ cond e (suc (level_of levels b true)) (level_of levels b true)
    go true true = omega arith
    go true false = omega arith
    go false true = omega arith
    go false false = omega arith

-- ── the walk

mutual
  -- a type that has no more levels than are left, the first line's level being the one that they tell
  pub type_paged : (t : ArrowDataType) (i : Option Info) (levels : ℕ) (inside : Bool) → type_levels t inside ≤ levels → levels ≤ level_limit
      → type_walk page_step t i (levels, inside) ≡ given (map placed_text (type_placed t i (level_of levels inside (is_extension (type_shape t)))))
  type_paged (scalar s) i levels inside h k = refl
  type_paged (nested n j t) i levels inside h k = rw (type_paged t (Some j) (levels - 1) false (omega arith) (omega arith), level_below levels inside (omega arith) k)
  type_paged (grouped g fs) i levels inside h k = rw (fields_paged fs (levels - 1) (omega arith) (omega arith), level_below levels inside (omega arith) k)
  type_paged (dictionary ix ordered t) i levels inside h k = rw (type_paged t None (levels - 1) false (omega arith) (omega arith), level_below levels inside (omega arith) k)
  type_paged (extension a m t) i levels true h k = rw (type_paged t None (levels - 1) true (omega arith) (omega arith), level_inner t levels true (omega arith) k)
  type_paged (extension a m t) i levels false h k = rw (type_paged t None (levels - 0) true (omega arith) (omega arith), level_inner t levels false (omega (arith, levels_some true t)) k)

  fields_paged : (fs : Fields) (levels : ℕ) → fields_levels fs ≤ levels → levels ≤ level_limit → fields_walk page_step fs (levels, false) ≡ given (map placed_text (fields_placed fs (level_of levels false false)))
  fields_paged nil levels h k = refl
  fields_paged (add i t fs) levels h k =
      rw (type_paged t (Some i) levels false (omega arith) k, fields_paged fs levels (omega arith) k)
      (ap given (sym (map-append placed_text (type_placed t (Some i) (level_of levels false false)) (fields_placed fs (level_of levels false false)))))

-- A sheet: 1, 2 and 3, then the lines. A field that was read has at most 32 levels, so that all of its lines have levels left.
pub sheet_paged : (b : Bytes) → paged b ≡ (read_field_sheet b >>= λ f. type_walk page_step f.type (Some f.info) (level_limit, false) >>= λ ls. given (ended ls))
unfolding paged
sheet_paged b = go (read_field_sheet b) refl
  where
    go : (m : Answer Field) → read_field_sheet b ≡ m → (m >>= λ f. given (page f)) ≡ (m >>= λ f. type_walk page_step f.type (Some f.info) (level_limit, false) >>= λ ls. given (ended ls))
    go (refused r) e = refl
    go (given f) e =
        let low : field_levels f ≤ level_limit = leb-true (field_levels f) level_limit (field_read b f e).1 in
        ap (λ (m : Answer (List Bytes)). m >>= λ ls. given (ended ls)) (sym (type_paged f.type (Some f.info) level_limit false low (omega arith)))
