-- Document 02, #101, 'A page for the service binder': a field's lines, one below the other, for a person to look at. "Each line below the heading, in sheet
-- order, becomes exactly 72 bytes and a byte 10"; the heading becomes none. Assumes nothing.
use Rattle.std.specs.Prelude.{cond, List, [], ◌∷◌, ◌++◌, map, ℕ, suc, ◌-◌, ltb, length, take, replicate, Option, None, Some}
use Rattle.sheets.specs.Bytes.{Bytes, space, plus_sign}
use Rattle.sheets.specs.Number.{decimal}
use Rattle.sheets.specs.Text.{hex}
use Rattle.sheets.specs.Sheet.{ended}
use Rattle.sheets.specs.Field.{Info, ArrowDataType, scalar, nested, grouped, dictionary, extension, Fields, nil, add, Field, count_fields}
use Rattle.sheets.specs.FieldSheet.{columns, of_scalar, of_nesting, of_grouping, of_dictionary, of_extension}
use Rattle.sheets.specs.FieldTrees.{Head, is_extension, type_shape}
use Rattle.sheets.specs.KindNames.{kind_name}
use Rattle.sheets.specs.Walk.{head_with}

-- ── a line

-- a text in a column of n bytes: "right-justified", "left-justified"
abbrev pub right_in : ℕ → Bytes → Bytes
right_in n t = replicate (n - length t) space ++ t

abbrev pub left_in : ℕ → Bytes → Bytes
left_in n t = t ++ replicate (n - length t) space

-- "`y`, `n` or `.` for nullable, not, or bare"
abbrev pub nullable_mark : Option Info → ℕ
nullable_mark None = 46
nullable_mark (Some i) = cond i.nullable 121 110

-- "the name's hexadecimal". "An empty name and a bare line show 48 spaces": no digits
abbrev pub name_digits : Option Info → Bytes
name_digits None = []
name_digits (Some i) = hex i.name

abbrev pub level_width : ℕ
level_width = 3

abbrev pub kind_width : ℕ
kind_width = 16

abbrev pub name_width : ℕ
name_width = 48

-- "left-justified in 48"; the digits past 48 are left out
abbrev pub name_column : Bytes → Bytes
name_column digits = left_in name_width (take name_width digits)

-- "`+` if the name was cut at 48 digits and a space if it was not"
abbrev pub cut_mark : Bytes → ℕ
cut_mark digits = cond (ltb name_width (length digits)) plus_sign space

-- "the level right-justified in 3, a space, the kind's name as `ArrowDataType` spells it left-justified in 16, a space, `y`, `n` or `.` .., a space, the
-- name's hexadecimal left-justified in 48, then `+` .. [or] a space"
abbrev pub line_shown : ℕ → ℕ → ℕ → Bytes → Bytes
line_shown level kind mark digits =
    right_in level_width (decimal level)
    ++ (space ∷ left_in kind_width (kind_name kind)
    ++ (space ∷ mark ∷ space ∷ name_column digits
    ++ (cut_mark digits ∷ [])))

abbrev pub page_line : ℕ → Head → Bytes
page_line level x = line_shown level (columns x.shape).kind (nullable_mark x.info) (name_digits x.info)

-- ── the lines and their levels

-- a line of a field sheet and its level
pub record Placed : Type 0 where
  pub level : ℕ
  pub line : Head

abbrev on : ℕ → Head → Placed
on n x = record { level = n; line = x }

-- Document 01: "An extension's inner line is on its extension's level, unless it is an extension too: then one level deeper."
abbrev pub inner_level : ℕ → ArrowDataType → ℕ
inner_level n t = cond (is_extension (type_shape t)) (suc n) n

-- the lines of a type whose first is on level n, "in sheet order"; what is below a line that is no extension is one level deeper
abbrev mutual
  pub type_placed : ArrowDataType → Option Info → ℕ → List Placed
  type_placed (scalar s) i n = on n (head_with (of_scalar s) i 0) ∷ []
  type_placed (nested g j t) i n = on n (head_with (of_nesting g) i 1) ∷ type_placed t (Some j) (suc n)
  type_placed (grouped g fs) i n = on n (head_with (of_grouping g) i (count_fields fs)) ∷ fields_placed fs (suc n)
  type_placed (dictionary ix ordered t) i n = on n (head_with (of_dictionary ix ordered) i 1) ∷ type_placed t None (suc n)
  type_placed (extension a m t) i n = on n (head_with (of_extension a m) i 1) ∷ type_placed t None (inner_level n t)

  pub fields_placed : Fields → ℕ → List Placed
  fields_placed nil n = []
  fields_placed (add i t fs) n = type_placed t (Some i) n ++ fields_placed fs n

-- "the first line being level 1"
abbrev pub placed_lines : Field → List Placed
placed_lines f = type_placed f.type (Some f.info) 1

-- ── the page

abbrev pub placed_text : Placed → Bytes
placed_text x = page_line x.level x.line

abbrev pub page : Field → Bytes
page f = ended (map placed_text (placed_lines f))
