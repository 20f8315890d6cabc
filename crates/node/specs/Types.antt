-- The type of a node, from the columns of its line: its columns as they are written, and which subtrees it visits. Assumes nothing.
use Rattle.std.specs.Prelude.{◌≡◌, Bool, false, ℕ, ◌+◌, ◌*◌, ◌≤◌, eqb, Option}
use Rattle.sheets.specs.Bytes.{Bytes}
use Rattle.sheets.specs.Answer.{Answer, refused, given, ◌>>=◌}
use Rattle.sheets.specs.Text.{read_text}
use Rattle.sheets.specs.FieldSheet.{Shape, columns, of_dictionary}
use Rattle.sheets.specs.Import.{format_text}
use Rattle.sheets.specs.ImportLines.{node_shape, needed}
use Rattle.sheets.specs.Format.{read_format, to_integer_type}
use Rattle.buffer.specs.Over.{PutAt}
use Rattle.field_line.specs.Columns.{columns_piece}
use Rattle.schema_line.specs.declared.SchemaLine.{SchemaLine}
use Rattle.import_type.specs.TypeColumns.{below_of}
use Rattle.import_type.specs.declared.Below.{Below}
use Rattle.refusal.specs.Refusals.{Refusing, answer_of}
use Rattle.import_type.specs.declared.Below.TheVariants.{Nothing, First, All, Values}

-- the bytes are a text's column
abbrev pub IsText : Bytes → Type 0
IsText t = (x : Option Bytes) × (read_text t ≡ given x)

-- 10 "needed child absent"
abbrev pub lacks_child : Below → ℕ → Bool
lacks_child First children = eqb children 0
lacks_child Nothing children = false
lacks_child All children = false
lacks_child Values children = false

-- the type of a line with a dictionary
abbrev pub index_shape : Bytes → Bool → Answer Shape
index_shape f ordered = to_integer_type f >>= λ ix. given (of_dictionary ix ordered)

-- the type of a line without one
abbrev pub format_shape : Bytes → Bool → ℕ → Answer Shape
format_shape f sorted children = read_format sorted f >>= λ g. needed g children

-- the type that a format column tells, with the numbers of its line
unfoldable pub column_type : Bytes → SchemaLine → Answer Shape
column_type t l = read_text t >>= λ x. format_text x >>= λ f. node_shape f l.flags l.children l.dictionary

-- the type's columns are written, not many more bytes than the n of its format
abbrev pub TypeTold : Answer Shape → ℕ → Bytes → Bytes → Answer (ℕ × Below) → Type 0
TypeTold a n out out' (given (end, b)) =
    (sh : Shape) × (a ≡ given sh) × PutAt 0 (columns_piece (columns sh)) end out out' × (b ≡ below_of sh) × (end ≤ 87 + 21 * n)
TypeTold a n out out' (refused q) = a ≡ refused q

abbrev pub TypePuts : Answer Shape → ℕ → Bytes → Bytes → Refusing (ℕ × Below) → Type 0
TypePuts a n out out' r = TypeTold a n out out' (answer_of r)
