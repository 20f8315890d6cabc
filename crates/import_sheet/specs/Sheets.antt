-- What the functions of import tell of the whole sheet. Assumes nothing.
use Rattle.std.specs.Prelude.{◌≡◌, Bool, false, cond, List, ℕ, ltb, length}
use Rattle.sheets.specs.Refusal.{bad_lines}
use Rattle.sheets.specs.Bytes.{Bytes}
use Rattle.sheets.specs.Answer.{Answer, refused, given, ◌>>=◌}
use Rattle.sheets.specs.Sheet.{level_limit}
use Rattle.sheets.specs.Schema.{Schema, read_schema_sheet}
use Rattle.sheets.specs.FieldSheet.{write_field_sheet}
use Rattle.sheets.specs.Import.{to_field}
use Rattle.sheets.specs.Visits.{import_lines}
use Rattle.sheets.specs.Outcome.{imported, lines_in}
use Rattle.outcome.specs.Answers.{SheetTold}
use Rattle.outcome.specs.declared.Size.{Size}
use Rattle.refusal.specs.declared.Refusal.{Refusal as Reason}
use Rattle.refusal.specs.Refusals.{refusal_of, Refusing, answer_of}
use Rattle.schema_sheet.specs.Trees.{ReadsTree}
use Rattle.schema_sheet.specs.Sheets.{sheet_body}
use Rattle.import_field.specs.declared.Tree.{Tree}
use Rattle.import_field.specs.Recursion.{FieldAt}

-- the field sheet of a schema, with metadata in that order
unfoldable pub sheet_of : Bool → Schema → Answer Bytes
sheet_of big t = to_field big t >>= λ f. given (write_field_sheet f)

-- the tree of the sheet's first line
abbrev pub tree_of : ℕ → Bool → Tree
tree_of at big = record { at = at; levels = level_limit; bare = false; big = big }

-- the sheet's tree was read up to next
abbrev pub FirstReads : Bytes → ℕ → Answer (ℕ × Size) → Type 0
FirstReads s at (refused q) = Unit {0}
FirstReads s at (given (next, size)) = ReadsTree s at level_limit (given next)

abbrev pub SheetWrote : Bytes → ℕ → Bool → Bytes → Bytes → Refusing (ℕ × Size) → Type 0
SheetWrote s at big out out' r = (t : Schema) (ts : List Schema) → FieldAt s at level_limit t ts → SheetTold (sheet_of big t) (import_lines t) out out' (answer_of r)

-- what is told of the sheet's lines, and, if the sheet's tree stands there, of what is written for it
abbrev pub SheetWrites : Bytes → ℕ → Bool → Bytes → Bytes → Refusing (ℕ × Size) → Type 0
SheetWrites s at big out out' r = FirstReads s at (answer_of r) × SheetWrote s at big out out' r

-- the lines end where the sheet does, or lines are left over
abbrev pub EndsAt : Bytes → ℕ → Size → Refusing (ℕ × Size) → Type 0
EndsAt s next size r = answer_of r ≡ cond (ltb next (length s)) (refused bad_lines) (given (next, size))

-- the sheet's own refusal, or else r
abbrev pub or_else : Answer ℕ → Reason → Answer ℕ
or_else (refused q) r = refused q
or_else (given at) r = refused (refusal_of r)

abbrev pub FirstOf : Bytes → Reason → Reason → Type 0
FirstOf s r q = refused (refusal_of q) ≡ or_else (sheet_body s) r

-- the sheet is read, and its field sheet written as far as it fits
abbrev pub Converts : Bool → Bytes → Bytes → Bytes → Refusing (ℕ × Size) → Type 0
Converts big s out out' r = SheetTold (imported big s) (lines_in import_lines (read_schema_sheet s)) out out' (answer_of r)
