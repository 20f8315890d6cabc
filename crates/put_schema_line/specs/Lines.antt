-- A schema line from columns of a field sheet: "`format name flags metadata children dictionary`". Assumes nothing.
use Rattle.std.specs.Prelude.{◌≡◌, Bool, ◌&&◌, ◌||◌, cond, [], ◌∷◌, ◌++◌, ℕ, ◌+◌, ◌≤◌, ◌<◌, ◌^◌, eqb, leb, ltb, pos, length, Some}
use Rattle.sheets.specs.Bytes.{Bytes, line_end, space, same}
use Rattle.sheets.specs.Answer.{Answer, refused, given, ◌>>=◌}
use Rattle.sheets.specs.Number.{decimal}
use Rattle.sheets.specs.Text.{write_text}
use Rattle.sheets.specs.Format.{or_empty}
use Rattle.sheets.specs.Flags.{ORDERED, NULLABLE, SORTED}
use Rattle.sheets.specs.Kind
use Rattle.sheets.specs.Export.{flag}
use Rattle.sheets.specs.Metadata.{extension_of, schema_metadata}
use Rattle.sheets.specs.Schema.{Node, schema_line, line_of}
use Rattle.buffer.specs.Over.{over}
use Rattle.columns.specs.Columns.{part}
use Rattle.columns.specs.declared.Part.{Part}
use Rattle.field_line.specs.Columns.{column, end_piece}
use Rattle.column_text.specs.ColumnText.{column_text, has_zero, TextColumn}
use Rattle.field_pairs.specs.Pairs.{PairsColumn, pairs_in, first_place}
use Rattle.put_format.specs.LineFormat.{line_format, CanFormat}
use Rattle.put_schema_line.specs.declared.LineNumbers.{LineNumbers}
use Rattle.refusal.specs.Refusals.{Refusing, answer_of}
use Rattle.put_schema_line.specs.declared.LineColumns.{LineColumns}

-- ── flags

-- "ordered dictionary", "sorted map keys"
abbrev pub other_flags : ℕ → ℕ → ℕ → ℕ
other_flags kind p q = cond (eqb kind Kind.Map) (flag (eqb p 1) SORTED) (cond (eqb kind Kind.Dictionary) (flag (eqb q 1) ORDERED) 0)

abbrev pub line_flags : Bool → ℕ → ℕ → ℕ → ℕ
line_flags nullable kind p q = flag nullable NULLABLE + other_flags kind p q

-- ── the line

-- the name that a column of names gives a node: a bare line's is empty, as that of a dictionary's values is
abbrev pub node_name : Bytes → Bytes
node_name name = or_empty (column_text name)

-- the node of a line with this format
abbrev pub node_text : LineNumbers → Bytes → Bytes → Bytes → Bytes → Bytes → Node
node_text n name pairs extension more f =
    record { format = Some f; name = Some (node_name name); flags = pos n.flags; metadata = schema_metadata n.big (pairs_in pairs) (extension_of (column_text extension) (column_text more)) }

-- the line of a schema sheet, with the byte that ends it
unfoldable pub line_text : LineNumbers → Bytes → Bytes → Bytes → Bytes → Bytes → Bytes
line_text n name pairs extension more f = schema_line.write (line_of (node_text n name pairs extension more f) n.children n.dictionary) ++ (line_end ∷ [])

-- what the buffer then holds: where there is no format, what it held
abbrev pub line_over : Answer Bytes → (Bytes → Bytes) → Bytes → Bytes
line_over (refused r) text old = old
line_over (given f) text old = over (text f) old

-- The line of the format was written, or there is no format. The answer is the line's length, and whether byte 00 stands in its format or name: 14,
-- where nothing below the line is refused
abbrev pub PutsLine : Answer Bytes → Bytes → (Bytes → Bytes) → Refusing (ℕ × Bool) → Bytes → Bytes → Type 0
PutsLine format name text r old out =
    (answer_of r ≡ (format >>= λ f. given (length (text f), has_zero f || has_zero (node_name name))))
    × (out ≡ line_over format text old)

-- the same by the columns
abbrev pub PutsColumns : LineNumbers → Bytes → Bytes → Bytes → Bytes → Bytes → Refusing (ℕ × Bool) → Bytes → Bytes → Type 0
PutsColumns n text name pairs extension more r old out =
    PutsLine (line_format n.kind n.p n.q text n.children) name (line_text n name pairs extension more) r old out

-- the column that stands in a part of the sheet
abbrev pub column_at : Bytes → Part → Bytes
column_at s p = part s p.start p.end

-- the same by the parts of a sheet
abbrev pub LinePut : Bytes → LineColumns → LineNumbers → Refusing (ℕ × Bool) → Bytes → Bytes → Type 0
LinePut s c n r old out =
    PutsColumns n (column_at s c.text) (column_at s c.name) (column_at s c.pairs) (column_at s c.extension) (column_at s c.more) r old out

-- ── the pieces

-- a space and the name
unfoldable pub name_piece : Bytes → Bytes
name_piece name = (space ∷ []) ++ write_text (Some (node_name name))

-- what stands after the name
unfoldable pub tail_piece : LineNumbers → Bytes → Bytes
tail_piece n metadata =
    (((((space ∷ []) ++ column (decimal n.flags)) ++ metadata) ++ (space ∷ [])) ++ column (decimal n.children)) ++ end_piece n.dictionary

-- what stands after the format
unfoldable pub rest_piece : LineNumbers → Bytes → Bytes → Bytes
unfolding name_piece tail_piece
rest_piece n name metadata = name_piece name ++ tail_piece n metadata

-- no metadata, and numbers of one digit
abbrev pub is_plain : LineNumbers → Bytes → Bytes → Bool
is_plain n pairs extension =
    leb (length pairs) (first_place pairs) && (same extension (126 ∷ []) && (leb n.flags 9 && (leb n.children 9 && ltb n.dictionary 10)))

-- ── what the writers require

pub record CanPutName (name : Bytes) (at : ℕ) : Type 0 where
  pub named : TextColumn name
  pub low : at < 2 ^ 60

pub record CanPutTail (pairs extension more : Bytes) (at : ℕ) : Type 0 where
  pub column : PairsColumn pairs
  pub short : length pairs < 65536
  pub extended : TextColumn extension
  pub metadata : TextColumn more
  pub low : at < 2 ^ 61

pub record CanPutPlain (n : LineNumbers) (out : Bytes) (at : ℕ) : Type 0 where
  pub flags : n.flags ≤ 9
  pub children : n.children ≤ 9
  pub dictionary : n.dictionary < 10
  pub room : (length out ≡ 0 → ⊥) → at + 9 ≤ length out
  pub low : at < 2 ^ 61

pub record CanPutRest (name pairs extension more : Bytes) (at : ℕ) : Type 0 where
  pub named : CanPutName name at
  pub tail : CanPutTail pairs extension more at

-- columns that a field may have, of a line that is no extension's
pub record CanPutColumns (n : LineNumbers) (text name pairs extension more : Bytes) : Type 0 where
  pub format : CanFormat n.kind n.p n.q text n.children 0
  pub named : TextColumn name
  pub column : PairsColumn pairs
  pub short : length pairs < 65536
  pub extended : TextColumn extension
  pub metadata : TextColumn more

-- a part of the sheet
pub record IsPart (s : Bytes) (p : Part) : Type 0 where
  pub low : p.start ≤ p.end
  pub high : p.end ≤ length s

pub record CanPutLine (s : Bytes) (c : LineColumns) (n : LineNumbers) : Type 0 where
  pub text : IsPart s c.text
  pub name : IsPart s c.name
  pub pairs : IsPart s c.pairs
  pub extension : IsPart s c.extension
  pub more : IsPart s c.more
  pub columns : CanPutColumns n (column_at s c.text) (column_at s c.name) (column_at s c.pairs) (column_at s c.extension) (column_at s c.more)
