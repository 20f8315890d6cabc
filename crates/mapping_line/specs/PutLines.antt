-- Document 01, 'Mappings': "The three that change a type answer the field with its type replaced", and the others "answer a sheet whose first line is bare":
-- the line of a type with the columns of another field, or of none. Assumes nothing.
use Rattle.std.specs.Prelude.{◌≡◌, Bool, ◌&&◌, [], ◌∷◌, ℕ, ◌+◌, ◌≤◌, eqb, length, Option, Some, None}
use Rattle.sheets.specs.Bytes.{Bytes}
use Rattle.sheets.specs.Sheet.{ended}
use Rattle.sheets.specs.Field.{Info, leaf}
use Rattle.sheets.specs.FieldSheet.{of_scalar, info_columns, no_text}
use Rattle.sheets.specs.FieldTrees.{Head}
use Rattle.sheets.specs.Walk.{head_with, head_text}
use Rattle.columns.specs.Columns.{part, part_of}
use Rattle.columns.specs.declared.Part.{Part}
use Rattle.buffer.specs.Over.{IsUsize, PutFirst}
use Rattle.field_line.specs.Columns.{own_piece}
use Rattle.read_field_line.specs.FieldLines.{FieldLineAt}
use Rattle.read_field_line.specs.declared.FieldLine.{FieldLine}
use Rattle.walks.specs.Places.{own_limit}

-- ── the columns `name nullable pairs`, each with its space

abbrev pub info_text : Option Info → Bytes
info_text j = own_piece (info_columns j).0 (info_columns j).1.0 (info_columns j).1.1

-- a part of the sheet
abbrev pub HasPart : Bytes → Part → Type 0
HasPart s p = (p.start ≤ p.end) × (p.end ≤ length s)

abbrev pub HasColumns : Bytes → Option Part → Type 0
HasColumns s (Some p) = HasPart s p
HasColumns s None = Unit {0}

abbrev pub columns_text : Bytes → Option Part → Bytes
columns_text s (Some p) = part s p.start p.end
columns_text s None = own_piece no_text no_text no_text

-- they are those of this field, or of none
abbrev pub Says : Bytes → Option Part → Option Info → Type 0
Says s own j = columns_text s own ≡ info_text j

-- those of a line
abbrev pub columns_of : FieldLine → Option Part
columns_of l = Some (part_of l.name.start (l.pairs.end + 1))

-- they stand in the line itself
abbrev pub is_own : FieldLine → Option Part → Bool
is_own l (Some p) = eqb p.start l.name.start && eqb p.end (l.pairs.end + 1)
is_own l None = l.bare

-- ── the line

pub record CanPutColumns (s : Bytes) (own : Option Part) (at : ℕ) : Type 0 where
  pub columns : HasColumns s own
  pub few : IsUsize (at + length s + 6)

pub record CanPutLine (s : Bytes) (at : ℕ) (l : FieldLine) (own : Option Part) : Type 0 where
  pub line : FieldLineAt s at l
  pub columns : HasColumns s own
  pub short : length s ≤ 65535

-- the line that stands there with the columns of j
abbrev pub line_with : Head → Option Info → Bytes
line_with x j = ended (head_text (head_with x.shape j x.children) ∷ [])

abbrev pub LinePut : Bytes → ℕ → FieldLine → Option Part → Bytes → Bytes → ℕ → Type 0
LinePut s at l own out out' r = (k : FieldLineAt s at l) (j : Option Info) → Says s own j → PutFirst (line_with k.line j) r out out' × (r ≤ own_limit)

-- ── the line of a type that has no columns of its own, by its kind

pub record CanPutKind (s : Bytes) (own : Option Part) : Type 0 where
  pub columns : HasColumns s own
  pub short : length s ≤ 65535

abbrev pub KindPut : Bytes → ℕ → Option Part → Bytes → Bytes → ℕ → Type 0
KindPut s kind own out out' r =
    (j : Option Info) → Says s own j → PutFirst (ended (head_text (head_with (of_scalar (leaf kind 0)) j 0) ∷ [])) r out out' × (r ≤ own_limit)
