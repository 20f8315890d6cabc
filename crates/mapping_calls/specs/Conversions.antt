-- The sheet that a conversion answers: the heading and one bare line. Assumes nothing.
use Rattle.std.specs.Prelude.{◌≡◌, ◌++◌, Some}
use Rattle.sheets.specs.Bytes.{Bytes}
use Rattle.sheets.specs.Answer.{Answer}
use Rattle.sheets.specs.Sheet.{heading_line}
use Rattle.sheets.specs.Field.{ArrowDataType}
use Rattle.sheets.specs.FieldSheet.{field_heading, no_text}
use Rattle.sheets.specs.Outcome.{Outcome, outcome, converted}
use Rattle.field_line.specs.Columns.{columns_piece, own_piece, end_piece}
use Rattle.datatypes.specs.Dtypes.{dtype_columns, type_columns}
use Rattle.datatypes.specs.declared.dtype.Dtype.{Dtype}

-- of the type with these columns
unfoldable pub dtype_sheet : Dtype → Bytes
dtype_sheet d = ((heading_line field_heading ++ columns_piece (dtype_columns d)) ++ own_piece no_text no_text no_text) ++ end_piece 0

-- the outcome for whatever was converted into the type
abbrev pub DtypeAnswered : Dtype → Bytes → Outcome → Type 0
DtypeAnswered d out o = (a : Answer ArrowDataType) → type_columns a ≡ Some (dtype_columns d) → o ≡ outcome (converted a) out
