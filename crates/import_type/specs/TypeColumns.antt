-- The columns of a field line that a format says, as the code writes them, and which subtrees the type visits, by the cases of the answers. Assumes nothing.
use Rattle.std.specs.Prelude.{◌≡◌, true, List, ℕ, ◌<◌, ◌^◌, ℤ, length, Some}
use Rattle.sheets.specs.Bytes.{Bytes}
use Rattle.sheets.specs.Answer.{Answer, refused, given}
use Rattle.sheets.specs.Number.{write_signed}
use Rattle.sheets.specs.FieldSheet.{Columns, Shape, columns, no_text, write_list, of_dictionary, of_extension}
use Rattle.sheets.specs.FieldSheet.{of_scalar as scalar_shape, of_nesting as nesting_shape, of_grouping as grouping_shape}
use Rattle.sheets.specs.Format.{Format, of_scalar, of_nesting, of_grouping}
use Rattle.refusal.specs.Refusals.{Refusing, answer_of}
use Rattle.hexadecimal.specs.Hex.{is_hex}
use Rattle.buffer.specs.Over.{PutAt}
use Rattle.field_line.specs.Columns.{columns_piece}
use Rattle.import_type.specs.declared.Below.{Below}
use Rattle.import_type.specs.declared.Below.TheVariants.{Nothing, First, All, Values}
use Rattle.import_type.specs.declared.put.Numbers.{Numbers}

-- what a format says of a line
abbrev pub shape_of : Format → Shape
shape_of (of_scalar s) = scalar_shape s
shape_of (of_nesting n) = nesting_shape n
shape_of (of_grouping g) = grouping_shape g

-- "Lists and map use their first child only"; struct and union visit all children, a dictionary its values, an extension its inner type
abbrev pub below_of : Shape → Below
below_of (scalar_shape s) = Nothing
below_of (nesting_shape n) = First
below_of (grouping_shape g) = All
below_of (of_dictionary ix ordered) = Values
below_of (of_extension n m) = Values

-- ── what is written

-- the columns of the type that a format says, and which subtrees the type visits
abbrev pub FormatTold : ℕ → Answer Format → Bytes → Bytes → Answer (ℕ × Below) → Type 0
FormatTold at a out out' (given (end, b)) =
    (g : Format) × (a ≡ given g) × PutAt at (columns_piece (columns (shape_of g))) end out out' × (b ≡ below_of (shape_of g))
FormatTold at a out out' (refused q) = a ≡ refused q

abbrev pub FormatPuts : ℕ → Answer Format → Bytes → Bytes → Refusing (ℕ × Below) → Type 0
FormatPuts at a out out' r = FormatTold at a out out' (answer_of r)

-- a union's ids
abbrev pub IdsTold : ℕ → Answer (List ℤ) → Bytes → Bytes → Answer ℕ → Type 0
IdsTold at a out out' (given end) = (zs : List ℤ) × (a ≡ given zs) × PutAt at (write_list write_signed (Some zs)) end out out'
IdsTold at a out out' (refused q) = a ≡ refused q

abbrev pub IdsPuts : ℕ → Answer (List ℤ) → Bytes → Bytes → Refusing ℕ → Type 0
IdsPuts at a out out' r = IdsTold at a out out' (answer_of r)

-- "unused texts `~`"
abbrev pub number_columns : Numbers → Columns
number_columns c = record { kind = c.0; p = c.1; q = c.2; text = no_text; more = no_text }

-- a format's text, and a place for its columns
pub record CanPut (f : Bytes) (at : ℕ) : Type 0 where
  pub is_text : is_hex f ≡ true
  pub short : length f < 65536
  pub low : at < 2 ^ 38

-- the same after a line's first columns
pub record CanPutAfter (f : Bytes) (at : ℕ) : Type 0 where
  pub is_text : is_hex f ≡ true
  pub short : length f < 65536
  pub low : at < 2 ^ 39
