-- The columns `name nullable` of a field line, from a schema's name column. Assumes nothing.
use Rattle.std.specs.Prelude.{Bool, cond, [], ◌++◌, Some}
use Rattle.sheets.specs.Bytes.{Bytes, same}
use Rattle.sheets.specs.Number.{decimal}
use Rattle.sheets.specs.Text.{write_text}
use Rattle.sheets.specs.FieldSheet.{no_text, to_nat}
use Rattle.field_line.specs.Columns.{column}

-- "Null names read as empty": a schema's name column as a field's, where `~` is written `-`
unfoldable pub name_column : Bytes → Bytes
name_column c = cond (same c no_text) (write_text (Some [])) c

-- name nullable, from a schema's name column
unfoldable pub name_piece : Bytes → Bool → Bytes
name_piece name nullable = column (name_column name) ++ column (decimal (to_nat nullable))
