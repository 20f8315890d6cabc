-- What is told of a node: what its metadata and name say of its field, which comes before its type in the sheet and after it among the refusals; and the
-- line of its type. Assumes nothing.
use Rattle.std.specs.Prelude.{◌≡◌, Bool, true, false, List, [], ◌∷◌, ◌++◌, ℕ, ◌+◌, ◌*◌, ◌≤◌, length, Option, None, Some, Err}
use Rattle.sheets.specs.Bytes.{Bytes}
use Rattle.sheets.specs.Answer.{Answer, refused, given, ◌>>=◌}
use Rattle.sheets.specs.Sheet.{ended}
use Rattle.sheets.specs.Schema.{Line, node_of, children_of, dictionary_of}
use Rattle.sheets.specs.Field.{Info}
use Rattle.sheets.specs.FieldSheet.{Shape, of_extension, columns, field_line, line_of}
use Rattle.sheets.specs.Import.{format_text}
use Rattle.sheets.specs.ImportLines.{node_shape, below, own_of, shown}
use Rattle.sheets.specs.Metadata.{Extension}
use Rattle.refusal.specs.Refusals.{Refusing, answer_of}
use Rattle.refusal.specs.declared.Refusal.{Refusal}
use Rattle.buffer.specs.Over.{PutAt, PutFirst}
use Rattle.columns.specs.Columns.{part}
use Rattle.field_line.specs.Columns.{columns_piece, end_piece}
use Rattle.columns.specs.declared.Part.{Part}
use Rattle.schema_line.specs.declared.SchemaLine.{SchemaLine}
use Rattle.schema_line.specs.Texts.{text_in}
use Rattle.schema_line.specs.Lines.{Shows}
use Rattle.import_type.specs.TypeColumns.{below_of}
use Rattle.import_type.specs.declared.Below.{Below}
use Rattle.import_type.specs.declared.Below.TheVariants.{Nothing, First, All, Values}
use Rattle.node.specs.declared.lines.Shown.{Shown}
use Rattle.node.specs.declared.Begun.{Begun}
use Rattle.node.specs.Pieces.{info_piece, shown_text, CanShow}

-- a column of the sheet, and a text's column without its marks
abbrev pub column_in : Bytes → Part → Bytes
column_in s p = part s p.start p.end

abbrev pub metadata_in : Bytes → SchemaLine → Bytes
metadata_in s l = text_in (column_in s l.metadata)

-- nothing of a field
abbrev pub nothing_shown : Bool → Shown
nothing_shown big = record { bare = true; nullable = false; count = 0; big = big }

-- nothing is written of the field, and its refusal is pending
abbrev pub refused_later : Bool → Refusal → Begun
refused_later big r = record { len = 0; shown = nothing_shown big; pending = Err r }

-- what a line shows of its field, as it is written
abbrev pub shown_in : Bytes → SchemaLine → List ℕ → Shown → Bytes
shown_in s l es w = shown_text (column_in s l.name) (metadata_in s l) es w

-- a column within the sheet
abbrev pub IsColumn : Bytes → Part → Type 0
IsColumn s p = (p.start ≤ p.end) × (p.end ≤ length s)

-- the number of children on the field line, by what the type visits
abbrev pub children_below : Below → ℕ → ℕ
children_below Nothing children = 0
children_below First children = 1
children_below All children = children
children_below Values children = 1

-- a line of the sheet shows a node, and the sheet is no longer than sheets are
pub record NodeIn (s : Bytes) (l : SchemaLine) : Type 0 where
  pub line : Line
  pub shows : Shows s l line
  pub short : length s ≤ 65535

-- ── what the metadata and the name say

-- the lines in front of the type's: that of an extension or none
abbrev pub lines_before : Bool → Info → Option Extension → List Bytes
lines_before bare i None = []
lines_before bare i (Some e) = field_line.write (line_of (of_extension e.0 e.1) (shown bare i) 1) ∷ []

-- what the type's own line shows of the field: nothing under an extension
abbrev pub type_shows : Bool → Info → Option Extension → Option Info
type_shows bare i None = shown bare i
type_shows bare i (Some e) = None

abbrev pub Headed : Bool → Info → Option Extension → Bytes → Bytes → Bytes → ℕ → Type 0
Headed bare i e own out out' len = PutFirst (ended (lines_before bare i e)) len out out' × (own ≡ info_piece (type_shows bare i e))

abbrev pub OwnTold : Bool → Bool → Line → Bytes → Bytes → Bytes → ℕ → Answer (Unit {0}) → Type 0
OwnTold bare big x own out out' len (given u) = (i : Info) × (e : Option Extension) × (own_of big (node_of x) ≡ given (i, e)) × Headed bare i e own out out' len
OwnTold bare big x own out out' len (refused q) = (own_of big (node_of x) ≡ refused q) × (len ≡ 0) × (own ≡ info_piece None)

pub record OwnBegins (s : Bytes) (l : SchemaLine) (bare big : Bool) (x : Line) (es : List ℕ) (out out' : Bytes) (b : Begun) : Type 0 where
  pub ready : CanShow (column_in s l.name) (metadata_in s l) es b.shown
  pub order : b.shown.big ≡ big
  pub told : OwnTold bare big x (shown_in s l es b.shown) out out' b.len (answer_of b.pending)
  pub long : b.len + length (shown_in s l es b.shown) ≤ 82 + length (column_in s l.name) + 3 * length (column_in s l.metadata)

-- what `begin_field` tells
abbrev pub FieldBegins : Bytes → SchemaLine → Bool → Bool → List ℕ → Bytes → Bytes → Begun → Type 0
FieldBegins s l bare big es out out' b = (x : Line) → Shows s l x → OwnBegins s l bare big x es out out' b

-- ── the type

-- the type that a node's line tells, or the refusal of its format
unfoldable pub line_type : Line → Answer Shape
line_type x = format_text (node_of x).format >>= λ f. node_shape f (node_of x).flags (children_of x) (dictionary_of x)

-- the line of a type, with what it shows of a field
abbrev pub type_text : Shape → Bytes → ℕ → Bytes
type_text sh own k = (columns_piece (columns sh) ++ own) ++ end_piece k

-- the line is written, and what the type visits is told; or the type is refused
abbrev pub LineTold : Answer Shape → ℕ → ℕ → Bytes → Bytes → Bytes → Answer (ℕ × Below) → Type 0
LineTold a children format own out out' (given (len, b)) =
    (sh : Shape)
    × (a ≡ given sh)
    × PutAt 0 (type_text sh own (below sh children)) len out out'
    × (b ≡ below_of sh)
    × (len ≤ 108 + 21 * format + length own)
LineTold a children format own out out' (refused q) = a ≡ refused q

-- what `put_type_line` tells
abbrev pub TypeLinePuts : Bytes → SchemaLine → Shown → List ℕ → Bytes → Bytes → Refusing (ℕ × Below) → Type 0
TypeLinePuts s l w es out out' r =
    (x : Line) → Shows s l x → LineTold (line_type x) (children_of x) (length (column_in s l.format)) (shown_in s l es w) out out' (answer_of r)
