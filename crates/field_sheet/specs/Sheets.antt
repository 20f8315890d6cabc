-- What reading a whole field sheet tells: where its lines begin, or why it is refused. Assumes nothing.
use Rattle.std.specs.Prelude.{Bool, true, false, ℕ, length}
use Rattle.sheets.specs.Bytes.{Bytes}
use Rattle.sheets.specs.Answer.{Answer, refused, given, ◌>>=◌}
use Rattle.sheets.specs.Sheet.{heading_line}
use Rattle.sheets.specs.Field.{Field}
use Rattle.sheets.specs.FieldSheet.{field_heading, read_field_sheet}
use Rattle.sheets.specs.Strict.{field_returns}
use Rattle.refusal.specs.Refusals.{refusal_of, Refusing}

-- what is asked of a field that was read, where the reading is strict
abbrev pub asked : Bool → Field → Answer (Unit {0})
asked true f = field_returns f
asked false f = given tt

-- the place after the heading and its byte 10, if the sheet is read: 1, 2 and 3 "over the whole sheet in that order", then what is asked
unfoldable pub body_as : Bool → Bytes → Answer ℕ
body_as strict s = read_field_sheet s >>= λ f. asked strict f >>= λ _. given (length (heading_line field_heading))

abbrev pub sheet_body : Bytes → Answer ℕ
sheet_body s = body_as false s
