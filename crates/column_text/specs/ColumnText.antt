-- A text's column of a field line: "Texts are lowercase hexadecimal pairs; `-` is empty", `~` is None. Assumes nothing.
use Rattle.std.specs.Prelude.{◌≡◌, Bool, not, ◌<◌, length, Option, None}
use Rattle.sheets.specs.Rule.{passes, Meets}
use Rattle.sheets.specs.Bytes.{Bytes, lacks}
use Rattle.sheets.specs.Text.{write_text, read_text}
use Rattle.sheets.specs.Field.{text_rule}
use Rattle.hexadecimal.specs.Hex.{given_or}

-- what the column says
unfoldable pub column_text : Bytes → Option Bytes
column_text column = given_or None (read_text column)

-- a column that a field may have; no column is longer than a sheet
pub record TextColumn (column : Bytes) : Type 0 where
  pub text : Option Bytes
  pub is : column ≡ write_text text
  pub rule : Meets (text_rule text)
  pub short : length column < 65536

-- byte 00 stands there: "14 byte 00 in a line's `name` or timezone"
abbrev pub has_zero : Bytes → Bool
has_zero f = not (passes (lacks 0 f))
