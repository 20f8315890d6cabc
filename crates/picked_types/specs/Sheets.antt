-- The sheets that `to_storage`, `inner_dtype` and `get_child` answer: the lines of the type that was found, the first with the columns of the field or bare.
-- Assumes nothing.
use Rattle.std.specs.Prelude.{◌≡◌, ℕ, ◌+◌, Option, None, Some}
use Rattle.sheets.specs.Bytes.{Bytes}
use Rattle.sheets.specs.Answer.{Answer, given, ◌>>=◌, found}
use Rattle.sheets.specs.Sheet.{write_sheet}
use Rattle.sheets.specs.Field.{Info, ArrowDataType}
use Rattle.sheets.specs.FieldSheet.{field_heading, type_lines, read_field_sheet}
use Rattle.sheets.specs.Outcome.{Outcome, outcome}
use Rattle.buffer.specs.Over.{IsUsize, PutFirst}
use Rattle.read_field_line.specs.declared.FieldLine.{FieldLine}
use Rattle.mapping_line.specs.PutLines.{HasColumns, Says, columns_of}
use Rattle.picked_types.specs.Picks.{chosen, PickedAt, PickTold}
use Rattle.picked_types.specs.declared.pick.Choice.{Choice}
use Rattle.picked_types.specs.declared.pick.Choice.TheVariants.{Storage, Inner, Child}
use Rattle.sheets.specs.Refusal.{undefined_mapping}
use Rattle.picked_types.specs.declared.pick.PickedType.{PickedType}
use Rattle.columns.specs.declared.Part.{Part}

-- ── the answer

-- "answer the field with its type replaced"; "answer a sheet whose first line is bare"
abbrev pub info_for : Choice → Info → Option Info
info_for Storage i = Some i
info_for Inner i = None
info_for (Child index) i = None

-- a sheet whose lines are the type's, the first with the columns of this field, or of none
abbrev pub sheet_with : Option Info → ArrowDataType → Bytes
sheet_with j t = write_sheet field_heading (type_lines t j)

abbrev pub choice_outcome : Choice → Bytes → Bytes → Outcome
choice_outcome c s out = outcome (read_field_sheet s >>= λ f. chosen c f.type >>= λ t. given (sheet_with (info_for c f.info) t)) out

-- ── what is required and told

-- the same columns, as they stand in the field's line
abbrev pub columns_for : Choice → FieldLine → Option Part
columns_for Storage first = columns_of first
columns_for Inner first = None
columns_for (Child index) first = None

abbrev pub HasColumnsOf : FieldLine → Type 0
HasColumnsOf first = IsUsize (first.pairs.end + 1)

-- the columns are those of some field, or of none
abbrev pub HasOwn : Bytes → Option Part → Type 0
HasOwn s own = (j : Option Info) × Says s own j × HasColumns s own

abbrev pub CanPut : Bytes → PickedType → Option Part → Type 0
CanPut s p own = (t : ArrowDataType) × PickedAt s p t × HasOwn s own

abbrev pub SheetPut : Bytes → PickedType → Option Part → Bytes → Bytes → ℕ → Type 0
SheetPut s p own out out' r = (t : ArrowDataType) (j : Option Info) → PickedAt s p t → Says s own j → PutFirst (sheet_with j t) r out out'

abbrev pub CanAnswer : Bytes → Option PickedType → Option Part → Type 0
CanAnswer s p own = (a : Answer ArrowDataType) × PickTold s a (found undefined_mapping p) × HasOwn s own

abbrev pub PickAnswered : Bytes → Option PickedType → Option Part → Bytes → Outcome → Type 0
PickAnswered s p own out o = (a : Answer ArrowDataType) (j : Option Info) → PickTold s a (found undefined_mapping p) → Says s own j → o ≡ outcome (a >>= λ t. given (sheet_with j t)) out
