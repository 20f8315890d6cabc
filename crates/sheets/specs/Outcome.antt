-- What each public call answers (document 01, 'Who is turned back', 'Agreement on the contracts'): its number, its length, and every byte of the
-- buffer that was lent. Assumes nothing.
use Rattle.std.specs.Prelude.{Bool, true, false, not, cond, ◌++◌, ℕ, eqb, leb, length, drop, replicate}
use Rattle.sheets.specs.Bytes.{Bytes}
use Rattle.sheets.specs.Refusal.{number_of, no_room}
use Rattle.sheets.specs.Answer.{Answer, refused, given, ◌>>=◌}
use Rattle.sheets.specs.Number.{decimal}
use Rattle.sheets.specs.Format.{rows}
use Rattle.sheets.specs.Schema.{read_schema_sheet, write_schema_sheet}
use Rattle.sheets.specs.Field.{ArrowDataType}
use Rattle.sheets.specs.FieldSheet.{read_field_sheet, write_field_sheet, write_bare_sheet, to_nat}
use Rattle.sheets.specs.Import.{to_field}
use Rattle.sheets.specs.Export.{schema_new}
use Rattle.sheets.specs.Visits.{import_lines, export_lines}
use Rattle.sheets.specs.Strict.{field_returns}
use Rattle.sheets.specs.Plain.{plain}
use Rattle.sheets.specs.Page.{page}
use Rattle.sheets.specs.Mappings.{PhysicalType, with_dtype, to_physical_type, underlying_physical_type, to_storage, to_storage_recursive, inner_dtype, get_child, is_nested, contains_dictionary, from_integer_type, from_primitive_type}

-- document 02, #104: "take the order as a yes (big-endian) or no from the caller". A host hands over a number: 0 is no, every other one is yes
abbrev pub is_yes : ℕ → Bool
is_yes n = not (eqb n 0)

-- ── the sheet that is answered, or the refusal

-- import: the field sheet of a schema sheet, whose metadata is big-endian, or not (document 02, #104)
unfoldable pub imported : Bool → Bytes → Answer Bytes
unfolding rows decimal
imported big b = do
  s ← read_schema_sheet b
  f ← to_field big s
  given (write_field_sheet f)

-- export: the schema sheet of a field sheet, with metadata in that order
unfoldable pub exported : Bool → Bytes → Answer Bytes
unfolding rows decimal
exported big b = do
  f ← read_field_sheet b
  s ← schema_new big f
  given (write_schema_sheet s)

-- strict export (document 02, #106): its two tests come "after the sheet's form and before any other test. Where it finds neither, it answers as the
-- present export"
unfoldable pub strict_exported : Bool → Bytes → Answer Bytes
unfolding rows decimal
strict_exported big b = do
  f ← read_field_sheet b
  _ ← field_returns f
  s ← schema_new big f
  given (write_schema_sheet s)

-- one or the other, as the caller says: strict, or the present one
abbrev pub exported_as : Bool → Bool → Bytes → Answer Bytes
exported_as true big b = strict_exported big b
exported_as false big b = exported big b

-- the plain form of a field sheet: "a field sheet again, heading included"
unfoldable pub plained : Bytes → Answer Bytes
unfolding decimal
plained b = read_field_sheet b >>= λ f. given (write_field_sheet (plain f))

-- "The three that change a type answer the field with its type replaced"
abbrev pub mapped : (ArrowDataType → Answer ArrowDataType) → Bytes → Answer Bytes
mapped change b = do
  f ← read_field_sheet b
  t ← change f.type
  given (write_field_sheet (with_dtype f t))

-- "`inner_dtype`, `get_child` and the two conversions answer a sheet whose first line is bare"
abbrev pub picked : (ArrowDataType → Answer ArrowDataType) → Bytes → Answer Bytes
picked pick b = do
  f ← read_field_sheet b
  t ← pick f.type
  given (write_bare_sheet t)

abbrev pub converted : Answer ArrowDataType → Answer Bytes
converted a = a >>= λ t. given (write_bare_sheet t)

-- document 02, #101: the page of a field sheet, which has no heading; "a buffer one byte too small gets 16"
unfoldable pub paged : Bytes → Answer Bytes
unfolding decimal
paged b = read_field_sheet b >>= λ f. given (page f)

-- ── calls that answer a sheet

pub record Outcome : Type 0 where
  pub number : ℕ
  pub size : ℕ
  pub buffer : Bytes

-- "Success is 0 with the length; bytes past it keep what they held"
abbrev pub success : Bytes → Bytes → Outcome
success x out = record { number = 0; size = length x; buffer = x ++ drop (length x) out }

-- "Refusal is the number with length 0, output all zeros"
abbrev pub refusal : ℕ → Bytes → Outcome
refusal n out = record { number = n; size = 0; buffer = replicate (length out) 0 }

-- "16 the sheet is longer than the buffer", "16 last"
unfoldable pub outcome : Answer Bytes → Bytes → Outcome
outcome (refused r) out = refusal (number_of r) out
outcome (given x) out = cond (leb (length x) (length out)) (success x out) (refusal no_room out)

-- the calls: a sheet (and an index, or a place alone), then what the lent buffer held; import and export take the order of the metadata before these
abbrev pub import_outcome_in : Bool → Bytes → Bytes → Outcome
import_outcome_in big b out = outcome (imported big b) out

abbrev pub export_outcome_in : Bool → Bytes → Bytes → Outcome
export_outcome_in big b out = outcome (exported big b) out

abbrev pub strict_export_outcome : Bool → Bytes → Bytes → Outcome
strict_export_outcome big b out = outcome (strict_exported big b) out

-- one or the other
abbrev pub export_outcome_as : Bool → Bool → Bytes → Bytes → Outcome
export_outcome_as strict big b out = outcome (exported_as strict big b) out

-- "Our lengths are little-endian"
abbrev pub import_outcome : Bytes → Bytes → Outcome
import_outcome b out = import_outcome_in false b out

abbrev pub export_outcome : Bytes → Bytes → Outcome
export_outcome b out = export_outcome_in false b out

abbrev pub plain_outcome : Bytes → Bytes → Outcome
plain_outcome b out = outcome (plained b) out

abbrev pub page_outcome : Bytes → Bytes → Outcome
page_outcome b out = outcome (paged b) out

abbrev pub underlying_physical_type_outcome : Bytes → Bytes → Outcome
underlying_physical_type_outcome b out = outcome (mapped underlying_physical_type b) out

abbrev pub to_storage_outcome : Bytes → Bytes → Outcome
to_storage_outcome b out = outcome (mapped (λ t. given (to_storage t)) b) out

abbrev pub to_storage_recursive_outcome : Bytes → Bytes → Outcome
to_storage_recursive_outcome b out = outcome (mapped to_storage_recursive b) out

abbrev pub inner_dtype_outcome : Bytes → Bytes → Outcome
inner_dtype_outcome b out = outcome (picked inner_dtype b) out

abbrev pub get_child_outcome : Bytes → ℕ → Bytes → Outcome
get_child_outcome b index out = outcome (picked (get_child index) b) out

abbrev pub from_integer_type_outcome : ℕ → Bytes → Outcome
from_integer_type_outcome place out = outcome (converted (from_integer_type place)) out

abbrev pub from_primitive_type_outcome : ℕ → Bytes → Outcome
from_primitive_type_outcome place out = outcome (converted (from_primitive_type place)) out

-- ── calls that answer numbers; they are lent no buffer, so 16 cannot come

-- the physical type, "both 0 on refusal"
pub record Places : Type 0 where
  pub number : ℕ
  pub place : ℕ
  pub inner : ℕ

abbrev pub places : Answer PhysicalType → Places
places (refused r) = record { number = number_of r; place = 0; inner = 0 }
places (given p) = record { number = 0; place = p.place; inner = p.inner }

abbrev pub to_physical_type_outcome : Bytes → Places
to_physical_type_outcome b = places (read_field_sheet b >>= λ f. to_physical_type f.type)

-- yes is 1, no is 0; "yes/no answers 0" on refusal
pub record YesNo : Type 0 where
  pub number : ℕ
  pub answer : ℕ

abbrev pub yes_no : Answer Bool → YesNo
yes_no (refused r) = record { number = number_of r; answer = 0 }
yes_no (given b) = record { number = 0; answer = to_nat b }

abbrev pub is_nested_outcome : Bytes → YesNo
is_nested_outcome b = yes_no (read_field_sheet b >>= λ f. given (is_nested f.type))

abbrev pub contains_dictionary_outcome : Bytes → YesNo
contains_dictionary_outcome b = yes_no (read_field_sheet b >>= λ f. given (contains_dictionary f.type))

-- ── calls that measure (document 02, #105): "for a sheet, the exact length the import or export would write and the number of lines it would visit,
-- without writing"

pub record Measure : Type 0 where
  pub number : ℕ
  pub size : ℕ
  pub lines : ℕ

-- "An input that the conversion refuses for another cause gets that same number here, with both counts 0"
abbrev pub measure : Answer Bytes → ℕ → Measure
measure (refused r) n = record { number = number_of r; size = 0; lines = 0 }
measure (given x) n = record { number = 0; size = length x; lines = n }

-- the lines of what was read
abbrev pub lines_in : {A : Type 0} → (A → ℕ) → Answer A → ℕ
lines_in lines (refused r) = 0
lines_in lines (given a) = lines a

abbrev pub measure_import_outcome : Bool → Bytes → Measure
measure_import_outcome big b = measure (imported big b) (lines_in import_lines (read_schema_sheet b))

abbrev pub measure_export_outcome : Bool → Bytes → Measure
measure_export_outcome big b = measure (exported big b) (lines_in export_lines (read_field_sheet b))
