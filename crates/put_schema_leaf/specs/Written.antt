-- What is known where a leaf's line was written at once, and where it was not. Assumes nothing.
use Rattle.std.specs.Prelude.{◌≡◌, Bool, true, false, not, ◌&&◌, ◌||◌, [], ◌∷◌, ◌++◌, ℕ, ◌+◌, ◌*◌, ◌-◌, ◌≤◌, eqb, leb, length, Option, None, Some}
use Rattle.sheets.specs.Bytes.{Bytes}
use Rattle.sheets.specs.Answer.{given}
use Rattle.sheets.specs.Kind
use Rattle.sheets.specs.Sheet.{ended}
use Rattle.sheets.specs.Schema.{Node, schema, end, absent, schema_lines}
use Rattle.sheets.specs.Export.{schema_new}
use Rattle.sheets.specs.FieldSheet.{type_lines}
use Rattle.sheets.specs.Plain.{plain}
use Rattle.buffer.specs.Over.{PutFirst}
use Rattle.field_leaf.specs.FieldLeaves.{Told, field_leaf_in, leaf_field, FieldLeafAt}
use Rattle.put_schema_leaf.specs.Formats.{format_digits}

-- ── the schema line

-- after the name: flags metadata children dictionary, ` F ~ 0 0` and byte 10, with flag 2 for nullable
unfoldable pub schema_tail : ℕ → Bytes
schema_tail nullable = 32 ∷ (48 + 2 * nullable) ∷ 32 ∷ 126 ∷ 32 ∷ 48 ∷ 32 ∷ 48 ∷ 10 ∷ []

-- with these columns for its format and its name
abbrev pub schema_text : Bytes → Bytes → ℕ → Bytes
schema_text format name nullable = ((format ++ (32 ∷ [])) ++ name) ++ schema_tail nullable

-- a leaf's field line stands at `at`, and the line of the node that `ArrowSchema::new` makes of the leaf is written
pub record SchemaLeafWritten (s : Bytes) (at : ℕ) (out out' : Bytes) (next len : ℕ) : Type 0 where
  pub kind : ℕ
  pub from : ℕ
  pub e : ℕ
  pub nullable : ℕ
  pub leaf : FieldLeafAt s at kind from e nullable
  pub node : Node
  pub made : (big : Bool) → schema_new big (leaf_field kind leaf.bytes nullable) ≡ given (schema node end absent)
  pub after : next ≡ e + 7
  pub put : PutFirst (ended (schema_lines (schema node end absent))) len out out'
  pub short : len ≤ 24 + (e - from)

-- no byte is lent, or there is room for the line, ten bytes longer than its format and its name
abbrev pub format_fits : Bytes → ℕ → Option Bytes → Bool
format_fits out name None = false
format_fits out name (Some format) = eqb (length out) 0 || leb (length format + 10 + name) (length out)

-- a line that is written at once: short, with a format and with room
abbrev pub schema_fits : Bytes → Option Told → Bool
schema_fits out None = false
schema_fits out (Some (kind, (from, (e, nullable)))) = format_fits out (e - from) (format_digits kind)

abbrev pub SchemaLeafTold : Bytes → ℕ → Bytes → Bytes → Option (ℕ × ℕ) → Type 0
SchemaLeafTold s at out out' (Some (next, len)) = SchemaLeafWritten s at out out' next len
SchemaLeafTold s at out out' None = (schema_fits out (field_leaf_in s at) ≡ false) × (out' ≡ out)

-- what `put_schema_leaf` tells
abbrev pub SchemaLeafPuts : Bytes → ℕ → Bytes → Bytes → Option (ℕ × ℕ) → Type 0
SchemaLeafPuts s at out out' r = SchemaLeafTold s at out out' r

-- ── the line itself

-- the lines of the leaf's plain form
abbrev pub plain_text : ℕ → Bytes → ℕ → Bytes
plain_text kind name nullable = let f = plain (leaf_field kind name nullable) in ended (type_lines f.type (Some f.info))

-- a date is another type underneath
abbrev pub is_copied : Bool → ℕ → Bool
is_copied dates kind = dates || not (eqb kind Kind.Date32 || eqb kind Kind.Date64)

-- a leaf's field line stands at `at`, and the lines of its plain form are written
pub record LeafCopied (s : Bytes) (at : ℕ) (dates : Bool) (out out' : Bytes) (next len : ℕ) : Type 0 where
  pub kind : ℕ
  pub from : ℕ
  pub e : ℕ
  pub nullable : ℕ
  pub leaf : FieldLeafAt s at kind from e nullable
  pub copied : is_copied dates kind ≡ true
  pub after : next ≡ e + 7
  pub put : PutFirst (plain_text kind leaf.bytes nullable) len out out'
  pub short : len ≤ e + 7 - at

-- a line that is copied at once: short, of a kind that is copied, and with room
abbrev pub copy_fits : Bytes → ℕ → Bool → Option Told → Bool
copy_fits out at dates None = false
copy_fits out at dates (Some (kind, (from, (e, nullable)))) = is_copied dates kind && leb (e + 7 - at) (length out)

abbrev pub LeafCopyTold : Bytes → ℕ → Bool → Bytes → Bytes → Option (ℕ × ℕ) → Type 0
LeafCopyTold s at dates out out' (Some (next, len)) = LeafCopied s at dates out out' next len
LeafCopyTold s at dates out out' None = (copy_fits out at dates (field_leaf_in s at) ≡ false) × (out' ≡ out)

-- what `copy_leaf` tells
abbrev pub LeafCopies : Bytes → ℕ → Bool → Bytes → Bytes → Option (ℕ × ℕ) → Type 0
LeafCopies s at dates out out' r = LeafCopyTold s at dates out out' r
