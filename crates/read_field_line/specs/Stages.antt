-- A line of a field sheet is read in stages: kind p q, then text more, then name nullable pairs. What each stage finds from a place on, or that no line
-- stands there whose columns of this stage keep the rules. Assumes nothing.
use Rattle.std.specs.Prelude.{◌≡◌, Bool, true, false, ◌&&◌, ℕ, ◌+◌, eqb, get_or, drop, Option, Some, None}
use Rattle.sheets.specs.Refusal.{bad_lines}
use Rattle.sheets.specs.Rule.{Meets}
use Rattle.sheets.specs.Bytes.{Bytes, space}
use Rattle.sheets.specs.Answer.{Answer, refused, given}
use Rattle.sheets.specs.Number.{read_number}
use Rattle.sheets.specs.Codec.{ColumnsCodec as Columns, number, raw, done, ◌▸◌}
use Rattle.sheets.specs.Field.{Info}
use Rattle.sheets.specs.FieldSheet.{Shape, Line, columns_of, read_shape, read_info}
use Rattle.sheets.specs.FieldTrees.{shape_rule, own_rule}
use Rattle.columns.specs.Columns.{part, part_of, one_of, ColumnAt}
use Rattle.columns.specs.Tails.{Tail}
use Rattle.field_columns.specs.FieldColumns.{is_nothing, is_content}
use Rattle.field_kinds.specs.FieldKinds.{p_fits, q_fits, text_content, Fits, OwnFits}
use Rattle.read_field_line.specs.declared.types.Numbers.{Numbers}
use Rattle.read_field_line.specs.declared.types.TypeColumns.{TypeColumns}
use Rattle.read_field_line.specs.declared.own.OwnColumns.{OwnColumns}

-- ── the columns of a line

-- the columns name nullable pairs children
abbrev pub OwnLine : Type 0
OwnLine = Bytes × (Bytes × (Bytes × (ℕ × Unit {0})))

abbrev pub own_row : Columns OwnLine
own_row = raw ▸ raw ▸ raw ▸ number ▸ done

abbrev pub field_row : Columns Line
field_row = number ▸ number ▸ number ▸ raw ▸ raw ▸ own_row

-- a line stands here whose columns kind p q text more are those of a type that keeps the rules
pub record TypeStands (s : Bytes) (at : ℕ) (x : Line) (rest : Bytes) : Type 0 where
  pub tail : Tail field_row s at x rest
  pub shape : Shape
  pub reads : read_shape (columns_of x) ≡ given shape
  pub rule : Meets (shape_rule shape)

-- the columns name nullable pairs stand here, and keep the rules
pub record OwnStands (s : Bytes) (at : ℕ) (y : OwnLine) (rest : Bytes) : Type 0 where
  pub tail : Tail own_row s at y rest
  pub info : Option Info
  pub reads : read_info (y.0, (y.1.0, y.1.1.0)) ≡ given info
  pub rule : Meets (own_rule info)

-- ── what each stage tells

pub record NumbersAt (s : Bytes) (at : ℕ) (n : Numbers) : Type 0 where
  pub kind_end : ℕ
  pub p_end : ℕ
  pub kind_at : ColumnAt s at kind_end space
  pub p_at : ColumnAt s (kind_end + 1) p_end space
  pub q_at : ColumnAt s (p_end + 1) n.end space
  pub kind_is : read_number (part s at kind_end) ≡ given n.kind
  pub p_is : read_number (part s (kind_end + 1) p_end) ≡ given n.p
  pub q_is : read_number (part s (p_end + 1) n.end) ≡ given n.q
  pub p_fit : p_fits n.kind n.p ≡ true
  pub q_fit : q_fits n.kind n.q ≡ true

abbrev pub ReadsNumbers : Bytes → ℕ → Answer Numbers → Type 0
ReadsNumbers s at (given n) = NumbersAt s at n
ReadsNumbers s at (refused r) = (r ≡ bad_lines) × ((x : Line) (rest : Bytes) → TypeStands s at x rest → ⊥)

pub record TypeAt (s : Bytes) (at : ℕ) (t : TypeColumns) : Type 0 where
  pub q_end : ℕ
  pub text_end : ℕ
  pub numbers : NumbersAt s at (record { kind = t.kind; p = t.p; q = t.q; end = q_end })
  pub text_at : ColumnAt s (q_end + 1) text_end space
  pub more_at : ColumnAt s (text_end + 1) t.end space
  pub text_is : t.text ≡ part_of (q_end + 1) text_end
  pub more_is : t.more ≡ part_of (text_end + 1) t.end
  pub fits : Fits (record { kind = t.kind; p = t.p; q = t.q; text = part s (q_end + 1) text_end; more = part s (text_end + 1) t.end })

abbrev pub ReadsType : Bytes → ℕ → Answer TypeColumns → Type 0
ReadsType s at (given t) = TypeAt s at t
ReadsType s at (refused r) = (r ≡ bad_lines) × ((x : Line) (rest : Bytes) → TypeStands s at x rest → ⊥)

-- byte 49 is `1`
pub record OwnAt (s : Bytes) (at : ℕ) (o : OwnColumns) : Type 0 where
  pub name_end : ℕ
  pub flag_end : ℕ
  pub name_at : ColumnAt s at name_end space
  pub flag_at : ColumnAt s (name_end + 1) flag_end space
  pub pairs_at : ColumnAt s (flag_end + 1) o.end space
  pub name_is : o.name ≡ part_of at name_end
  pub pairs_is : o.pairs ≡ part_of (flag_end + 1) o.end
  pub bare_is : o.bare ≡ is_nothing (part s at name_end)
  pub flag_is : o.nullable ≡ eqb (get_or s (name_end + 1) 0) 49
  pub fits : OwnFits (part s at name_end, (part s (name_end + 1) flag_end, part s (flag_end + 1) o.end))

abbrev pub ReadsOwn : Bytes → ℕ → Answer OwnColumns → Type 0
ReadsOwn s at (given o) = OwnAt s at o
ReadsOwn s at (refused r) = (r ≡ bad_lines) × ((y : OwnLine) (rest : Bytes) → OwnStands s at y rest → ⊥)

-- ── columns that are known to stand

-- the column `text` of a line of the kind k
abbrev pub HasTypeText : Bytes → ℕ → ℕ → Type 0
HasTypeText s a k = (e : ℕ) × ColumnAt s a e space × (is_content (text_content k) (part s a e) ≡ true)

abbrev pub HasTypeColumns : Bytes → ℕ → Type 0
HasTypeColumns s at = (x : Line) × (rest : Bytes) × TypeStands s at x rest

abbrev pub HasOwnColumns : Bytes → ℕ → Type 0
HasOwnColumns s at = (y : OwnLine) × (rest : Bytes) × OwnStands s at y rest

-- ── a bare line, whose name, `nullable` and pairs are `~`

abbrev pub is_none : ℕ → Bool
is_none b = eqb b 126

abbrev pub bare_at : Bytes → ℕ → Bool
bare_at s at = one_of is_none space (drop at s) && (one_of is_none space (drop (at + 2) s) && one_of is_none space (drop (at + 4) s))

-- its columns, each one byte and a space
abbrev pub bare_own : ℕ → OwnColumns
bare_own at = record { name = part_of at (at + 1); bare = true; nullable = false; pairs = part_of (at + 4) (at + 5); end = at + 5 }
