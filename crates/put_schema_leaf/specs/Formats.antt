-- The format of a type that has no unit, as the digits in which a schema line has it. Assumes nothing.
use Rattle.std.specs.Prelude.{cond, ◌++◌, ℕ, ◌-◌, min, Option, None, Some}
use Rattle.sheets.specs.Bytes.{Bytes}
use Rattle.sheets.specs.Text.{hex}
use Rattle.sheets.specs.Format.{FormatRow, rows, row_of}
use Rattle.words.specs.Words.{low_bytes}
use Rattle.field_leaf.specs.FieldLeaves.{is_short}
use Rattle.put_schema_leaf.specs.declared.format.Digits.{Digits}

-- the first eight digits by one number, those after them by another, len in all
abbrev pub digits_text : ℕ → ℕ → ℕ → Bytes
digits_text low high len = low_bytes (min len 8) low ++ low_bytes (len - 8) high

-- what `Digits` says
abbrev pub digits_option : Option Digits → Option Bytes
digits_option (Some d) = Some (digits_text d.low d.high d.len)
digits_option None = None

abbrev pub name_digits : Option FormatRow → Option Bytes
name_digits None = None
name_digits (Some r) = Some (hex r.name)

-- the digits of the fixed name of a type that has no unit; Unknown has none
abbrev pub format_digits : ℕ → Option Bytes
format_digits kind = cond (is_short kind) (name_digits (row_of kind 0 rows)) None
