-- What each call that takes a field sheet answers (`Outcome`), and what writing its sheet tells. Assumes nothing.
use Rattle.std.specs.Prelude.{Bool, false, List, [], ◌++◌, ℕ, Some}
use Rattle.sheets.specs.Bytes.{Bytes}
use Rattle.sheets.specs.Answer.{Answer, given, ◌>>=◌}
use Rattle.sheets.specs.Sheet.{level_limit, ended, heading_line}
use Rattle.sheets.specs.Schema.{schema_heading}
use Rattle.sheets.specs.Field.{Info, ArrowDataType}
use Rattle.sheets.specs.FieldSheet.{Entry, field_heading, read_field_sheet}
use Rattle.sheets.specs.Mappings.{to_storage_recursive, underlying_physical_type}
use Rattle.sheets.specs.Outcome.{Outcome, outcome, exported_as, plained, mapped, paged, lines_in}
use Rattle.sheets.specs.Walk.{type_walk, type_visits}
use Rattle.outcome.specs.Answers.{SheetTold}
use Rattle.walks.specs.Places.{TypeAt}
use Rattle.field_walk.specs.declared.Call.{Call}
use Rattle.field_walk.specs.declared.Call.TheVariants.{Export, Plain, ToStorageRecursive, UnderlyingPhysicalType, Page}
use Rattle.refusal.specs.Refusals.{Refusing, answer_of as result_answer}
use Rattle.field_walk.specs.Calls.{step_of, state_of}
use Rattle.outcome.specs.declared.Size.{Size}

-- ── what is answered, or the refusal

abbrev pub answer_of : Call → Bytes → Answer Bytes
answer_of (Export big strict) = exported_as strict big
answer_of Plain = plained
answer_of ToStorageRecursive = mapped to_storage_recursive
answer_of UnderlyingPhysicalType = mapped underlying_physical_type
answer_of Page = paged

-- whether the sheet is read strictly
abbrev pub strict_of : Call → Bool
strict_of (Export big strict) = strict
strict_of Plain = false
strict_of ToStorageRecursive = false
strict_of UnderlyingPhysicalType = false
strict_of Page = false

abbrev pub call_outcome : Call → Bytes → Bytes → Outcome
call_outcome c s out = outcome (answer_of c s) out

-- what stands before the lines of the answer: export answers a schema sheet, plain form and the mappings a field sheet, and a page has no heading
abbrev pub opening_of : Call → Bytes
opening_of (Export big strict) = heading_line schema_heading
opening_of Plain = heading_line field_heading
opening_of ToStorageRecursive = heading_line field_heading
opening_of UnderlyingPhysicalType = heading_line field_heading
opening_of Page = []

-- ── what is required and told

-- a field of at most 32 levels stands here
abbrev pub HasField : Bytes → ℕ → Type 0
HasField s at = (i : Info) × (t : ArrowDataType) × (es : List Entry) × TypeAt s at level_limit false (Some i) t es

-- what the call answers for a type
abbrev pub sheet_for : Call → Info → ArrowDataType → Answer Bytes
sheet_for c i t = type_walk (step_of c) t (Some i) (state_of c level_limit false) >>= λ ls. given (opening_of c ++ ended ls)

-- and how many lines it visits for it
abbrev pub lines_for : Call → Info → ArrowDataType → ℕ
lines_for c i t = type_visits (step_of c) t (Some i) (state_of c level_limit false)

-- in a sheet
abbrev pub lines_of : Call → Bytes → ℕ
lines_of c s = lines_in (λ f. lines_for c f.info f.type) (read_field_sheet s)

abbrev pub SheetWrote : Call → Bytes → ℕ → Bytes → Bytes → Refusing (ℕ × Size) → Type 0
SheetWrote c s at out out' r = (i : Info) (t : ArrowDataType) (es : List Entry) → TypeAt s at level_limit false (Some i) t es → SheetTold (sheet_for c i t) (lines_for c i t) out out' (result_answer r)
