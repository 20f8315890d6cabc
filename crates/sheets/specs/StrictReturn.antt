-- Document 02, #106, as statements about public calls: "Where it finds neither, it answers as the present export; what it writes imports to the plain form,
-- with only the sheet lengths and the buffers left to the caller." The second is demand 3 without its two conditions on the field's lines, which the call tests
-- itself. `proofs/StrictReturn.antt` proves it for each order of the metadata (`strict_return : (big : Bool) → StrictReturn big`), and what it makes of
-- `round_trip` with the strict export (`strict_trip : (big : Bool) → StrictTrip big`). Assumes nothing.
use Rattle.std.specs.Prelude.{◌≡◌, ◌↔◌, Bool, true, false, List, [], ◌∷◌, ◌++◌, map, ℕ, Some}
use Rattle.sheets.specs.Refusal.{Refusal, not_sheet, bad_lines, too_deep, no_format, no_union_ids, zero_byte, reserved_key, wide_index, number_of, no_room, one_of}
use Rattle.sheets.specs.Bytes.{Bytes}
use Rattle.sheets.specs.Rule.{Rule, ◌and◌, each, passes, Meets}
use Rattle.sheets.specs.Answer.{refused, given}
use Rattle.sheets.specs.Sheet.{write_sheet}
use Rattle.sheets.specs.Field.{Field}
use Rattle.sheets.specs.FieldSheet.{field_heading, read_field_sheet}
use Rattle.sheets.specs.FieldTrees.{Head}
use Rattle.sheets.specs.Walk.{head_text}
use Rattle.sheets.specs.Strict.{keys_rule, index_rule, type_heads}
use Rattle.sheets.specs.Outcome.{export_outcome_in, strict_export_outcome, import_outcome_in, plained, plain_outcome}
use Rattle.sheets.specs.Demand3.{NoReservedKey, NoWideIndex, IsShort, HasRoom, written}
use Rattle.sheets.specs.RoundTrip.{Buffers, step_buffers, RoundTrip, all_same, export_refused, import_refused, plain_refused, again_refused, import_differs, again_differs, strict_round_trip_outcome, four_sheets}

-- ── what it finds

-- the line has neither
abbrev pub neither : Head → Rule
neither h = keys_rule h.info and index_rule h.shape

-- a line of the field, after lines that have neither
pub record FirstLine (f : Field) (h : Head) : Type 0 where
  pub before : List Head
  pub after : List Head
  pub lines : type_heads f.type (Some f.info) ≡ before ++ (h ∷ after)
  pub neither_before : Meets (each neither before)

-- ── a field that was exported strictly, under one order: no condition on its lines

pub record StrictlyExported (big : Bool) : Type 0 where
  -- the field sheet that is handed in, and what the buffer held that its export was put into
  pub sheet : Bytes
  pub buffer : Bytes
  pub answers_zero : (strict_export_outcome big sheet buffer).number ≡ 0
  -- "only the sheet lengths and the buffers left to the caller"
  pub short_export : IsShort (written (strict_export_outcome big sheet buffer))

-- its export: "the length, and every byte within the length"
abbrev pub strict_export_of : {big : Bool} → StrictlyExported big → Bytes
strict_export_of {big} e = written (strict_export_outcome big e.sheet e.buffer)

-- ── the request; `out` is what a buffer that is lent held before

pub record StrictReturn (big : Bool) : Type 0 where
  -- "over the whole field, lines in order": the lines that are tested, written out, are those of the sheet
  pub all_lines : (b : Bytes) (f : Field) → read_field_sheet b ≡ given f → b ≡ write_sheet field_heading (map head_text (type_heads f.type (Some f.info)))
  -- "Where it finds neither, it answers as the present export"
  pub as_export : (b : Bytes) (f : Field) → read_field_sheet b ≡ given f → NoReservedKey f → NoWideIndex f → (out : Bytes) → strict_export_outcome big b out ≡ export_outcome_in big b out
  -- "after the sheet's form"
  pub as_form : (b : Bytes) (r : Refusal) → read_field_sheet b ≡ refused r → (out : Bytes) → strict_export_outcome big b out ≡ export_outcome_in big b out
  -- "A reserved key is refused with 17 and a 128-bit dictionary index with 18, the key first when a line has both": whatever else is wrong with the field
  pub reserved_exactly : (b : Bytes) (f : Field) → read_field_sheet b ≡ given f → (out : Bytes)
      → ((strict_export_outcome big b out).number ≡ number_of reserved_key) ↔ ((h : Head) × FirstLine f h × (passes (keys_rule h.info) ≡ false))
  pub wide_exactly : (b : Bytes) (f : Field) → read_field_sheet b ≡ given f → (out : Bytes)
      → ((strict_export_outcome big b out).number ≡ number_of wide_index) ↔ ((h : Head) × FirstLine f h × (passes (keys_rule h.info) ≡ true) × (passes (index_rule h.shape) ≡ false))
  -- demand 3: "importing its export answers 0 and gives its plain form, byte for byte": what the plain form itself answers, in every buffer
  pub imports_back : (e : StrictlyExported big) (out : Bytes) → import_outcome_in big (strict_export_of e) out ≡ plain_outcome e.sheet out
  -- it has a plain form
  pub has_plain : (e : StrictlyExported big) → (p : Bytes) × (plained e.sheet ≡ given p)
  -- "exporting the plain form gives the same bytes as exporting the field"; here the plain form is handed in
  pub exports_again : (e : StrictlyExported big) (p : Bytes) → plained e.sheet ≡ given p → IsShort p → (out : Bytes) → strict_export_outcome big p out ≡ strict_export_outcome big e.sheet out
  -- "two such fields export to the same bytes exactly when their plain forms are equal"
  pub same_exports : (d e : StrictlyExported big) → (strict_export_of d ≡ strict_export_of e) ↔ (plained d.sheet ≡ plained e.sheet)

-- ── `round_trip` with the strict export

-- the number is 16, or that of one of these reasons
abbrev pub room_or : List Refusal → ℕ → Bool
room_or rs n = one_of (no_room ∷ map number_of rs) n

-- What it can answer to any sheet, with any buffers: all is the same, or a step was refused. The export is refused with the numbers of the sheet's maker, 17, 18,
-- those of the field's owner, or 16; import with 1, where the export is too long to be handed in, or 16, so never with 9; the plain form with 16; the second
-- export with 1, where the plain form is too long to be handed in, or 16. Import never gives another field than the plain form, and the second export never
-- differs from the first.
abbrev pub StrictAnswer : RoundTrip → Type 0
StrictAnswer all_same = Unit {0}
StrictAnswer (export_refused n) = room_or (not_sheet ∷ bad_lines ∷ too_deep ∷ reserved_key ∷ wide_index ∷ no_format ∷ no_union_ids ∷ zero_byte ∷ []) n ≡ true
StrictAnswer (import_refused n) = room_or (not_sheet ∷ []) n ≡ true
StrictAnswer (plain_refused n) = room_or [] n ≡ true
StrictAnswer (again_refused n) = room_or (not_sheet ∷ []) n ≡ true
StrictAnswer import_differs = ⊥
StrictAnswer again_differs = ⊥

-- "the buffers": room for the export, for the plain form p twice, and for the export
pub record StrictRoom {big : Bool} (e : StrictlyExported big) (p : Bytes) (out : Buffers) : Type 0 where
  pub first : HasRoom out.first (strict_export_of e)
  pub second : HasRoom out.second p
  pub third : HasRoom out.third p
  pub fourth : HasRoom out.fourth (strict_export_of e)

pub record StrictTrip (big : Bool) : Type 0 where
  pub answers : (sheet : Bytes) (out : Buffers) → StrictAnswer (strict_round_trip_outcome big sheet out).answer
  -- "with only the sheet lengths and the buffers left to the caller": where they are met all is the same, and the buffers have the export, the plain form
  -- twice, and the export
  pub returns : (e : StrictlyExported big) (p : Bytes) → plained e.sheet ≡ given p → IsShort p → (out : Buffers) → StrictRoom e p out
      → strict_round_trip_outcome big e.sheet out ≡ record { answer = all_same; buffers = step_buffers (four_sheets (strict_export_of e) p p (strict_export_of e) out) }
