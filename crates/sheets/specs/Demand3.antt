-- Demand 3, as a statement about public calls. `proofs/Demand3.antt` proves it for each order of the metadata (`demand3 : (big : Bool) → Demand3 big`) and
-- `proofs/Demand3Example.antt` gives fields that meet its conditions.
--
-- "For every field that can be exported (no 128-bit dictionary index, no reserved key, sheets of at most 65,535 bytes, room in the buffers):
-- importing its export answers 0 and gives its plain form, byte for byte; exporting the plain form gives the same bytes as exporting the field;
-- two such fields export to the same bytes exactly when their plain forms are equal." Document 02, #104: "On the old conditions a field exported and
-- imported under one order comes back in plain form."
-- Assumes nothing.
use Rattle.std.specs.Prelude.{◌≡◌, ◌↔◌, Bool, true, ℕ, ◌≤◌, length, take}
use Rattle.sheets.specs.Rule.{Rule, is, ◌and◌, Meets}
use Rattle.sheets.specs.Bytes.{Bytes}
use Rattle.sheets.specs.Answer.{given}
use Rattle.sheets.specs.Sheet.{sheet_limit}
use Rattle.sheets.specs.Field.{Info, ArrowDataType, scalar, nested, grouped, dictionary, extension, Fields, nil, add, Field}
use Rattle.sheets.specs.FieldSheet.{read_field_sheet, write_field_sheet}
use Rattle.sheets.specs.Plain.{plain}
use Rattle.sheets.specs.Strict.{own_keys, narrow_index}
use Rattle.sheets.specs.Outcome.{Outcome, success, import_outcome_in, export_outcome_in}

-- ── the conditions

-- "What is in it is all its lines, also those that export never visits": a rule for what each line says of its field, and one for each
-- dictionary's index type
abbrev mutual
  pub type_every : (Info → Rule) → (ℕ → Rule) → ArrowDataType → Rule
  type_every own index (scalar s) = is true
  type_every own index (nested n i t) = own i and type_every own index t
  type_every own index (grouped g fs) = fields_every own index fs
  type_every own index (dictionary ix ordered t) = index ix and type_every own index t
  type_every own index (extension n m t) = type_every own index t

  pub fields_every : (Info → Rule) → (ℕ → Rule) → Fields → Rule
  fields_every own index nil = is true
  fields_every own index (add i t fs) = own i and type_every own index t and fields_every own index fs

abbrev pub every_line : (Info → Rule) → (ℕ → Rule) → Field → Rule
every_line own index f = own f.info and type_every own index f.type

abbrev pub no_rule : {A : Type 0} → A → Rule
no_rule a = is true

-- "no reserved key"
abbrev pub NoReservedKey : Field → Type 0
NoReservedKey f = Meets (every_line own_keys no_rule f)

-- "no 128-bit dictionary index"
abbrev pub NoWideIndex : Field → Type 0
NoWideIndex f = Meets (every_line no_rule narrow_index f)

-- "sheets of at most 65,535 bytes": those handed in
abbrev pub IsShort : Bytes → Type 0
IsShort b = length b ≤ sheet_limit

-- "room in the buffers"
abbrev pub HasRoom : Bytes → Bytes → Type 0
HasRoom out x = length x ≤ length out

-- ── a field that can be exported, under one order

-- the bytes within the length that a call answered
abbrev pub written : Outcome → Bytes
written o = take o.size o.buffer

pub record Exportable (big : Bool) : Type 0 where
  -- the field sheet that is handed in, and the field that it says
  pub sheet : Bytes
  pub field : Field
  -- "In demand 3 a field is a field sheet that gets none of 1, 2 and 3."
  pub is_field : read_field_sheet sheet ≡ given field
  -- the conditions
  pub no_reserved_key : NoReservedKey field
  pub no_wide_index : NoWideIndex field
  -- what the buffer held that its export was put into: "It can be exported if export into a buffer that is long enough answers 0."
  pub buffer : Bytes
  pub answers_zero : (export_outcome_in big sheet buffer).number ≡ 0
  -- "The sheets on the way are those handed in: the field and its export"; that the field is short is part of `is_field`
  pub short_export : IsShort (written (export_outcome_in big sheet buffer))

-- its export: "the length, and every byte within the length"
abbrev pub export_of : {big : Bool} → Exportable big → Bytes
export_of {big} e = written (export_outcome_in big e.sheet e.buffer)

-- its plain form, a field sheet
abbrev pub plain_form_of : {big : Bool} → Exportable big → Bytes
plain_form_of e = write_field_sheet (plain e.field)

-- ── the demand, the same order on both ways; `out` is what a buffer that is lent held before

pub record Demand3 (big : Bool) : Type 0 where
  -- "importing its export answers 0 and gives its plain form, byte for byte"
  pub imports_back : (e : Exportable big) (out : Bytes) → HasRoom out (plain_form_of e) → import_outcome_in big (export_of e) out ≡ success (plain_form_of e) out
  -- "exporting the plain form gives the same bytes as exporting the field"; here the plain form is handed in
  pub exports_again : (e : Exportable big) → IsShort (plain_form_of e) → (out : Bytes) → HasRoom out (export_of e) → export_outcome_in big (plain_form_of e) out ≡ success (export_of e) out
  -- "two such fields export to the same bytes exactly when their plain forms are equal"
  pub same_exports : (d e : Exportable big) → (export_of d ≡ export_of e) ↔ (plain_form_of d ≡ plain_form_of e)
