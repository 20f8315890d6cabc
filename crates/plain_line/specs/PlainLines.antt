-- Document 01, 'Plain form', of a line that stays a line: "Timezone Some-empty becomes None; pairs Some-empty become None. Union ids None become 0, 1, ..
-- one per field. The rest is unchanged". Assumes nothing.
use Rattle.std.specs.Prelude.{Bool, false, not, cond, [], ◌∷◌, ◌++◌, ℕ, ◌+◌, ◌*◌, ◌≤◌, eqb, length, Some}
use Rattle.sheets.specs.Bytes.{Bytes, ascii, same}
use Rattle.sheets.specs.Number.{decimal, write_signed}
use Rattle.sheets.specs.Kind
use Rattle.sheets.specs.Sheet.{ended}
use Rattle.sheets.specs.Field.{up_from}
use Rattle.sheets.specs.FieldSheet.{Shape, of_scalar, of_nesting, of_grouping, of_dictionary, of_extension, no_text, to_nat, write_list}
use Rattle.sheets.specs.FieldTrees.{Head}
use Rattle.sheets.specs.Plain.{plain_scalar, plain_grouping}
use Rattle.sheets.specs.PlainSteps.{plain_own, empty_to_none}
use Rattle.sheets.specs.Walk.{head_with, head_text}
use Rattle.columns.specs.Columns.{part}
use Rattle.columns.specs.declared.Part.{Part}
use Rattle.buffer.specs.Over.{IsUsize, PutAt}
use Rattle.field_line.specs.Columns.{column, kind_piece, own_piece, end_piece}
use Rattle.read_field_line.specs.FieldLines.{FieldLineAt}
use Rattle.read_field_line.specs.declared.FieldLine.{FieldLine}
use Rattle.walks.specs.Places.{own_limit}
use Rattle.plain_line.specs.declared.line.TextChange.{TextChange}
use Rattle.plain_line.specs.declared.line.TextChange.TheVariants.{Kept, Absent, Counted}

-- ── the line

abbrev pub plain_shape : Shape → ℕ → Shape
plain_shape (of_scalar s) n = of_scalar (plain_scalar s)
plain_shape (of_nesting g) n = of_nesting g
plain_shape (of_grouping g) n = of_grouping (plain_grouping g n)
plain_shape (of_dictionary ix ordered) n = of_dictionary ix ordered
plain_shape (of_extension a m) n = of_extension a m

abbrev pub plain_head : Head → Head
plain_head x = head_with (plain_shape x.shape x.children) (plain_own x.info) x.children

-- with its byte 10
abbrev pub plain_line : Head → Bytes
plain_line x = ended (head_text (plain_head x) ∷ [])

-- ── its columns

-- a part of the sheet
abbrev pub HasPart : Bytes → Part → Type 0
HasPart s p = (p.start ≤ p.end) × (p.end ≤ length s)

abbrev pub column_in : Bytes → Part → Bytes
column_in s p = part s p.start p.end

-- "Union ids None become 0, 1, .. one per field"
abbrev pub counted_ids : ℕ → Bytes
counted_ids n = write_list write_signed (Some (up_from 0 n))

-- `text`, by the kind: a timezone `-` becomes `~`, and the ids `~` become 0, 1, ..
abbrev pub text_change_of : ℕ → Bytes → TextChange
text_change_of kind t =
    cond (eqb kind Kind.Timestamp) (cond (same t (ascii "-")) Absent Kept)
    (cond (eqb kind Kind.Union) (cond (same t no_text) Counted Kept)
    Kept)

-- what `TextChange` says of a column over so many lines below
abbrev pub changed_text : TextChange → Bytes → ℕ → Bytes
changed_text Kept t n = t
changed_text Absent t n = no_text
changed_text Counted t n = counted_ids n

-- name nullable pairs
unfoldable pub own_text : Bytes → FieldLine → Bytes
own_text s l =
    cond l.bare (own_piece no_text no_text no_text)
    (own_piece (column_in s l.name) (decimal (to_nat l.nullable)) (empty_to_none (column_in s l.pairs)))

-- the whole line, from what was read of it
unfoldable pub changed_line : Bytes → FieldLine → TextChange → Bytes
changed_line s l change =
    (((kind_piece l.kind l.p l.q ++ column (changed_text change (column_in s l.text) l.children)) ++ column (column_in s l.more)) ++ own_text s l)
    ++ end_piece l.children

-- no column changes
abbrev pub is_kept : TextChange → Bytes → Bool
is_kept Kept pairs = not (same pairs (ascii "-"))
is_kept Absent pairs = false
is_kept Counted pairs = false

-- ── what is required and told

-- a column and a space fit after place at
abbrev pub CanPut : Bytes → Part → ℕ → Type 0
CanPut s p at = HasPart s p × IsUsize (at + length s + 1)

-- so do name nullable pairs
abbrev pub CanPutOwn : Bytes → FieldLine → ℕ → Type 0
CanPutOwn s l at = HasPart s l.name × HasPart s l.pairs × IsUsize (at + 2 * length s + 64)

-- the line was read at this place of a sheet, which has a line for each of its children
pub record LineHere (s : Bytes) (at : ℕ) (l : FieldLine) : Type 0 where
  pub there : FieldLineAt s at l
  pub few : l.children ≤ length s
  pub short : length s ≤ 65535

-- the same, wherever it was read
abbrev pub HasLine : Bytes → FieldLine → Type 0
HasLine s l = (at : ℕ) × LineHere s at l

-- its plain form is written
abbrev pub LinePut : Bytes → ℕ → FieldLine → Bytes → Bytes → ℕ → Type 0
LinePut s at l out out' len = (k : FieldLineAt s at l) → PutAt 0 (plain_line k.line) len out out' × (len ≤ own_limit)
