-- The format of a field line's type by the line's columns and its number of children: `to_format` looks no further. Assumes nothing.
use Rattle.std.specs.Prelude.{◌≡◌, List, ◌++◌, ℕ, ◌<◌, ◌^◌, ℤ, length, Option, None, Some}
use Rattle.sheets.specs.Refusal.{no_format}
use Rattle.sheets.specs.Rule.{Meets}
use Rattle.sheets.specs.Bytes.{Bytes, ascii}
use Rattle.sheets.specs.Answer.{Answer, refused, given, ◌>>=◌}
use Rattle.sheets.specs.Number.{decimal, write_signed, read_signed}
use Rattle.sheets.specs.Field.{timestamp, up_from}
use Rattle.sheets.specs.FieldSheet.{Columns, Shape, of_scalar, of_nesting, of_grouping, of_dictionary, of_extension, no_text, columns, shape_at, unit_at, write_list, read_list}
use Rattle.sheets.specs.FieldTrees.{shape_rule}
use Rattle.sheets.specs.Format.{scalar_format, nesting_format, grouping_format, index_format, write_ids}
use Rattle.sheets.specs.Kind
use Rattle.hexadecimal.specs.Hex.{given_or}
use Rattle.column_text.specs.ColumnText.{TextColumn}
use Rattle.put_format.specs.Formats.{CanPutName}

-- the format of a type by what its line says and its number of fields; an extension's is on its inner line
abbrev pub shape_format : Shape → ℕ → Answer Bytes
shape_format (of_scalar s) fields = scalar_format s
shape_format (of_nesting n) fields = given (nesting_format n)
shape_format (of_grouping g) fields = grouping_format g fields
shape_format (of_dictionary ix ordered) fields = index_format ix
shape_format (of_extension n m) fields = refused no_format

-- the columns of a line that is no extension's
abbrev pub line_columns : ℕ → ℕ → ℕ → Bytes → Columns
line_columns kind p q text = record { kind = kind; p = p; q = q; text = text; more = no_text }

-- what a line says of its type
unfoldable pub line_shape : ℕ → ℕ → ℕ → Bytes → Answer Shape
line_shape kind p q text = shape_at (line_columns kind p q text)

-- the format of a line
unfoldable pub line_format : ℕ → ℕ → ℕ → Bytes → ℕ → Answer Bytes
unfolding line_shape
line_format kind p q text fields = line_shape kind p q text >>= λ s. shape_format s fields

-- ── the pieces

-- `d:precision,scale` and a width, which is nothing or `,32`
abbrev pub decimal_text : ℕ → ℕ → Bytes → Bytes
decimal_text p q width = (((ascii "d:" ++ decimal p) ++ ascii ",") ++ decimal q) ++ width

abbrev pub timestamp_format : ℕ → Option Bytes → Answer Bytes
timestamp_format p zone = unit_at p >>= λ u. scalar_format (timestamp u zone)

-- what a column of ids says
unfoldable pub ids_in : Bytes → Option (List ℤ)
ids_in text = given_or None (read_list read_signed text)

-- the name of a union and its ids; those that are None are counted
abbrev pub union_format : Bytes → Option (List ℤ) → ℕ → Answer Bytes
union_format name None fields = write_ids name (up_from 0 fields)
union_format name (Some ids) fields = write_ids name ids

-- ── what the writers require

pub record CanPutZone (p : ℕ) (zone : Bytes) (at : ℕ) : Type 0 where
  pub unit : p < 4
  pub zoned : TextColumn zone
  pub low : at < 2 ^ 62

-- a column of ids that a field may have
pub record IdsColumn (text : Bytes) : Type 0 where
  pub ids : Option (List ℤ)
  pub is : text ≡ write_list write_signed ids
  pub read : read_list read_signed text ≡ given ids
  pub short : length text < 65536

pub record CanPutUnion (text : Bytes) (fields at : ℕ) : Type 0 where
  pub column : IdsColumn text
  pub few : fields < 65536
  pub low : at < 2 ^ 61

pub record CanPutIds (name text : Bytes) (fields at : ℕ) : Type 0 where
  pub named : CanPutName name at
  pub union : CanPutUnion text fields at

-- the columns of a line that reads, but for an extension's
pub record CanFormat (kind p q : ℕ) (text : Bytes) (fields at : ℕ) : Type 0 where
  pub shape : Shape
  pub read : line_shape kind p q text ≡ given shape
  pub is : text ≡ (columns shape).text
  pub rule : Meets (shape_rule shape)
  pub plain : kind ≡ Kind.Extension → ⊥
  pub short : length text < 65536
  pub few : fields < 65536
  pub low : at < 2 ^ 60
