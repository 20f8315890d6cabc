-- The reason of documents 01 and 02 that each case of the code's enumeration stands for; its number is `number_of`. Assumes nothing.
use Rattle.sheets.specs.Refusal.{Refusal as Reason, not_sheet, bad_lines, too_deep, null_format, not_utf8, unsupported_format, bad_number, bad_decimal, bad_index, no_child, bad_metadata, no_format, no_union_ids, zero_byte, undefined_mapping, reserved_key, wide_index}
use Rattle.std.specs.Prelude.{Result, Ok, Err}
use Rattle.sheets.specs.Answer.{Answer, refused, given}
use Rattle.refusal.specs.declared.Refusal.{Refusal}
use Rattle.refusal.specs.declared.Refusal.TheVariants as R

abbrev pub refusal_of : Refusal → Reason
refusal_of R.NotSheet = not_sheet
refusal_of R.BadLines = bad_lines
refusal_of R.TooDeep = too_deep
refusal_of R.NullFormat = null_format
refusal_of R.NotUtf8 = not_utf8
refusal_of R.UnsupportedFormat = unsupported_format
refusal_of R.BadNumber = bad_number
refusal_of R.BadDecimal = bad_decimal
refusal_of R.BadIndex = bad_index
refusal_of R.NoChild = no_child
refusal_of R.BadMetadata = bad_metadata
refusal_of R.NoFormat = no_format
refusal_of R.NoUnionIds = no_union_ids
refusal_of R.ZeroByte = zero_byte
refusal_of R.UndefinedMapping = undefined_mapping
refusal_of R.ReservedKey = reserved_key
refusal_of R.WideIndex = wide_index

-- a value, or why the sheet is refused
abbrev pub Refusing : Type 0 → Type 0
Refusing A = Result A Refusal

abbrev pub answer_of : {A : Type 0} → Refusing A → Answer A
answer_of (Ok a) = given a
answer_of (Err r) = refused (refusal_of r)
