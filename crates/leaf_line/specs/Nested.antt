-- The short line of a list, a large list or a struct: `FFFF NN.. d ~ c 0`, with one child to nine. A map is left out, since the flags tell besides whether its
-- keys are sorted. Assumes nothing.
use Rattle.std.specs.Prelude.{List, [], ◌∷◌, map, ℕ, ◌+◌, ◌-◌, ◌≤◌, ◌<◌, leb, ltb, get_or, Option, None, Some}
use Rattle.sheets.specs.Rule.{Rule, is, ◌and◌}
use Rattle.sheets.specs.Bytes.{Bytes, ascii}
use Rattle.sheets.specs.Field.{list, large_list, struct}
use Rattle.sheets.specs.Format.{FormatRow, nesting_format, Format, of_nesting, of_grouping}
use Rattle.sheets.specs.FieldSheet.{Shape, columns, of_nesting as nesting_shape, of_grouping as grouping_shape}
use Rattle.columns.specs.Columns.{part}
use Rattle.columns.specs.Pairs.{pairs_from}
use Rattle.format_names.specs.ShortNames.{kind_among}
use Rattle.leaf_line.specs.Short.{short_rule, Told, short_from, ShortFormat, ShortAt}
use Rattle.leaf_line.specs.declared.Nested.{Nested}

-- ── the types

pub data NestedType : Type 0 where
  list_type : NestedType
  large_list_type : NestedType
  struct_type : NestedType

-- its name, what that says, and what the field's line says of it
abbrev pub nested_name : NestedType → Bytes
nested_name list_type = nesting_format list
nested_name large_list_type = nesting_format large_list
nested_name struct_type = ascii "+s"

abbrev pub nested_type : NestedType → Format
nested_type list_type = of_nesting list
nested_type large_list_type = of_nesting large_list
nested_type struct_type = of_grouping struct

abbrev pub nested_shape : NestedType → Shape
nested_shape list_type = nesting_shape list
nested_shape large_list_type = nesting_shape large_list
nested_shape struct_type = grouping_shape struct

abbrev pub nested_kind : NestedType → ℕ
nested_kind t = (columns (nested_shape t)).kind

abbrev pub nested_row : NestedType → FormatRow
nested_row t = record { name = nested_name t; kind = nested_kind t; unit = 0 }

unfoldable pub named_rows : List FormatRow
named_rows = map nested_row (list_type ∷ large_list_type ∷ struct_type ∷ [])

-- ── the line

-- what the digit of the children says, after a name that ends at e
abbrev pub children_at : Bytes → ℕ → ℕ
children_at s e = get_or s (e + 5) 0 - 48

abbrev pub count_rule : ℕ → Rule
count_rule c = is (ltb 0 c) and is (leb c 9)

-- the line from `at` on whose name ends at e
abbrev pub nested_to : Bytes → ℕ → ℕ → Option Told
nested_to s at e =
    let c = children_at s e in
    short_from (count_rule c and short_rule 4 s at e c) s e c (kind_among (part s at (at + 4)) named_rows)

-- such a line from `at` on, if one stands there
unfoldable pub nested_in : Bytes → ℕ → Option Told
nested_in s at = nested_to s at (pairs_from s (at + 5))

-- what `Nested` says
abbrev pub nested_option : Option Nested → Option Told
nested_option (Some l) = Some (l.kind, (l.end, (l.flags, l.children)))
nested_option None = None

-- ── what is known of such a line

abbrev pub nested_format : NestedType → ShortFormat
nested_format t = record { digits = 4; kind = nested_kind t; type = nested_type t }

-- such a line stands at `at`: it tells this type, and it has a child
pub record NestedAt (s : Bytes) (at : ℕ) (t : NestedType) (e flags c : ℕ) : Type 0 where
  pub short : ShortAt (nested_format t) s at e flags c
  pub child : 0 < c
  pub digit : c ≤ 9
