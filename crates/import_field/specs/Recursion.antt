-- What the functions of a field's import ask and tell. The trees that they read are those that stand at a place of the sheet; what they write is what
-- import makes of these trees, laid over the lent buffer. Assumes nothing.
use Rattle.std.specs.Prelude.{◌≡◌, Bool, true, false, List, [], ◌∷◌, ◌++◌, ℕ, ◌+◌, ◌*◌, ◌-◌, ◌≤◌, ◌<◌, max, length, drop, Option, Ok, Err}
use Rattle.sheets.specs.Bytes.{Bytes}
use Rattle.sheets.specs.Answer.{Answer, refused, given, ◌>>=◌}
use Rattle.sheets.specs.Sheet.{ended}
use Rattle.sheets.specs.Schema.{Line, node_of, children_of, dictionary_of, Schema, schema, Schemas, Dictionary, count_schemas, count_dictionary, schema_levels, children_levels, dictionary_levels}
use Rattle.sheets.specs.LineTrees.{tallest}
use Rattle.sheets.specs.SchemaTrees.{push_children, push_dictionary, Standing}
use Rattle.sheets.specs.Field.{Info}
use Rattle.sheets.specs.ImportLines.{written, type_written, row_written}
use Rattle.sheets.specs.Visits.{import_lines, below_lines, row_lines}
use Rattle.refusal.specs.Refusals.{refusal_of, Refusing, answer_of}
use Rattle.buffer.specs.Over.{PutFirst}
use Rattle.outcome.specs.declared.Size.{Size}
use Rattle.schema_line.specs.declared.SchemaLine.{SchemaLine}
use Rattle.schema_line.specs.Lines.{Shows, LineAt}
use Rattle.schema_sheet.specs.Trees.{ReadsTree, ReadsRow}
use Rattle.import_type.specs.declared.Below.{Below}
use Rattle.import_type.specs.declared.Below.TheVariants.{Nothing, First, All, Values}
use Rattle.node.specs.declared.lines.Shown.{Shown}
use Rattle.node.specs.Pieces.{info_piece, CanShow}
use Rattle.node.specs.Nodes.{column_in, metadata_in, shown_in}
use Rattle.import_field.specs.declared.Tree.{Tree}
use Rattle.import_field.specs.declared.Trees.{Trees}
use Rattle.import_field.specs.declared.Visit.{Visit}
use Rattle.import_field.specs.declared.TypeBegun.{TypeBegun}
use Rattle.import_field.specs.declared.NodeBegun.{NodeBegun}

-- ── what stands at a place of a sheet

-- the tree t of at most so many levels, and then ts
pub record FieldAt (s : Bytes) (at levels : ℕ) (t : Schema) (ts : List Schema) : Type 0 where
  pub stands : Standing (drop at s) (t ∷ ts)
  pub deep : schema_levels t ≤ levels
  pub short : length s ≤ 65535

-- the trees us, so many and of at most so many levels, and then ts
pub record FieldsAt (s : Bytes) (at count levels : ℕ) (us : Schemas) (ts : List Schema) : Type 0 where
  pub stands : Standing (drop at s) (push_children us ts)
  pub counted : count_schemas us ≡ count
  pub deep : children_levels us ≤ levels
  pub within : at ≤ length s
  pub short : length s ≤ 65535

-- the same of trees that are not visited
pub record LeftAt (s : Bytes) (at count levels : ℕ) (us ts : List Schema) : Type 0 where
  pub stands : Standing (drop at s) (us ++ ts)
  pub counted : length us ≡ count
  pub deep : tallest schema_levels us ≤ levels
  pub within : at ≤ length s

-- the line of a node, x, was found; below it stand its children cs and its dictionary d, of at most so many levels, and then ts
pub record TypeAt (s : Bytes) (l : SchemaLine) (levels : ℕ) (x : Line) (cs : Schemas) (d : Dictionary) (ts : List Schema) : Type 0 where
  pub shows : Shows s l x
  pub children : count_schemas cs ≡ children_of x
  pub dictionary : count_dictionary d ≡ dictionary_of x
  pub stands : Standing (drop l.end s) (push_children cs (push_dictionary d ts))
  pub deep : max (children_levels cs) (dictionary_levels d) ≤ levels
  pub within : l.end ≤ length s
  pub short : length s ≤ 65535

-- ── what is required

-- a node's line was found, and what its type's line shows of a field can be written
pub record HasLine (s : Bytes) (l : SchemaLine) (w : Shown) (es : List ℕ) : Type 0 where
  pub line : Line
  pub shows : Shows s l line
  pub one : dictionary_of line < 2
  pub within : l.end ≤ length s
  pub short : length s ≤ 65535
  pub ready : CanShow (column_in s l.name) (metadata_in s l) es w

-- ── what is told

-- The lines o were to be written, for what stands before `next`, n lines of it visited, and then ts stands.
abbrev pub WroteAs : Bytes → List Schema → Answer (List Bytes) → ℕ → Bytes → Bytes → Answer (ℕ × Size) → Type 0
WroteAs s ts o n out out' (refused q) = o ≡ refused q
WroteAs s ts o n out out' (given (next, size)) =
    (ls : List Bytes)
    × (o ≡ given ls)
    × PutFirst (ended ls) size.len out out'
    × Standing (drop next s) ts
    × (next ≤ length s)
    × (size.lines ≡ n)

abbrev pub Wrote : Bytes → List Schema → Answer (List Bytes) → ℕ → Bytes → Bytes → Refusing (ℕ × Size) → Type 0
Wrote s ts o n out out' r = WroteAs s ts o n out out' (answer_of r)

abbrev pub FieldWrote : Bytes → Tree → Bytes → Bytes → Refusing (ℕ × Size) → Type 0
FieldWrote s t out out' r =
    (u : Schema) (ts : List Schema) → FieldAt s t.at t.levels u ts → Wrote s ts (written t.big t.bare u) (import_lines u) out out' r

abbrev pub FieldsWrote : Bytes → Trees → Bytes → Bytes → Refusing (ℕ × Size) → Type 0
FieldsWrote s w out out' r =
    (us : Schemas) (ts : List Schema) → FieldsAt s w.at w.count w.levels us ts → Wrote s ts (row_written w.big w.bare us) (row_lines us) out out' r

-- of the fields of a type and of the subtrees vs after them, so many, which it does not visit
abbrev pub TypeWrote : Bytes → Trees → ℕ → Bytes → Bytes → Refusing (ℕ × Size) → Type 0
TypeWrote s w last out out' r =
    (us : Schemas) (vs ts : List Schema) → FieldsAt s w.at w.count w.levels us (vs ++ ts) → length vs ≡ last → tallest schema_levels vs ≤ w.levels
    → Wrote s ts (row_written w.big w.bare us) (row_lines us) out out' r

-- ── what is told of the sheet, whatever stands there

-- The trees from `from` on, so many, were read up to next: a row of them stands there exactly if the rest of it does at next, and none has more levels.
-- What was written for them is not long: 32 bytes at most for each byte that was read; each line that was visited has a byte.
abbrev pub RowRead : Bytes → ℕ → ℕ → ℕ → Answer (ℕ × Size) → Type 0
RowRead s from count levels (refused q) = Unit {0}
RowRead s from count levels (given (next, size)) =
    ReadsRow s from count levels (given next)
    × (size.len + 32 * from ≤ 32 * next)
    × (size.lines + from ≤ next)

-- the same of one tree
abbrev pub FieldRead : Bytes → ℕ → ℕ → Answer (ℕ × Size) → Type 0
FieldRead s at levels (refused q) = Unit {0}
FieldRead s at levels (given (next, size)) =
    ReadsTree s at levels (given next)
    × (size.len + 32 * at ≤ 32 * next)
    × (size.lines + at ≤ next)

-- What a function tells: of the sheet, and, if a tree stands there, of what is written for it. Where none does, it answers some refusal.
abbrev pub FieldTold : Bytes → Tree → Bytes → Bytes → Refusing (ℕ × Size) → Type 0
FieldTold s t out out' r = FieldRead s t.at t.levels (answer_of r) × FieldWrote s t out out' r

-- each tree has a byte
abbrev pub RowPast : ℕ → ℕ → Answer (ℕ × Size) → Type 0
RowPast from count (refused q) = Unit {0}
RowPast from count (given (next, size)) = count + from ≤ next

abbrev pub FieldsTold : Bytes → Trees → Bytes → Bytes → Refusing (ℕ × Size) → Type 0
FieldsTold s w out out' r =
    RowRead s w.at w.count w.levels (answer_of r) × RowPast w.at w.count (answer_of r) × FieldsWrote s w out out' r

-- the subtrees that are visited and the last ones were read
abbrev pub TypeTold : Bytes → Trees → ℕ → Bytes → Bytes → Refusing (ℕ × Size) → Type 0
TypeTold s w last out out' r = RowRead s w.at (w.count + last) w.levels (answer_of r) × TypeWrote s w last out out' r

-- ── the subtrees below a node

-- how many are skipped, then visited, bare or not, then skipped
abbrev pub visit_of : Below → ℕ → Visit
visit_of Nothing c = record { first = c; count = 0; bare = false; last = 0 }
visit_of First c = record { first = 0; count = 1; bare = false; last = c - 1 }
visit_of All c = record { first = 0; count = c; bare = false; last = 0 }
visit_of Values c = record { first = c; count = 1; bare = true; last = 0 }

-- the first child is there where it is visited
abbrev pub HasFirst : Below → ℕ → Type 0
HasFirst Nothing c = Unit {0}
HasFirst First c = 1 ≤ c
HasFirst All c = Unit {0}
HasFirst Values c = Unit {0}

abbrev pub begun_answer : Refusing TypeBegun → Answer (ℕ × (ℕ × Visit))
begun_answer (Ok b) = given (b.from, (b.len, b.visit))
begun_answer (Err r) = refused (refusal_of r)

-- The type's line is written, and, with metadata in that order, from `from` on stand the trees us that it visits, then vs that it does not, then ts; for the
-- trees us n lines are visited.
pub record LineBegins (big : Bool) (s : Bytes) (levels : ℕ) (o : Answer (List Bytes)) (n : ℕ) (ts : List Schema) (out out' : Bytes) (from len : ℕ) (v : Visit) : Type 0 where
  pub us : Schemas
  pub vs : List Schema
  pub line : Bytes
  pub visited : FieldsAt s from v.count levels us (vs ++ ts)
  pub others : length vs ≡ v.last
  pub low : tallest schema_levels vs ≤ levels
  pub becomes : o ≡ (row_written big v.bare us >>= λ ls. given (line ∷ ls))
  pub lines : n ≡ row_lines us
  pub put : PutFirst (ended (line ∷ [])) len out out'

abbrev pub BeginsAs : Bool → Bytes → ℕ → Answer (List Bytes) → ℕ → List Schema → Bytes → Bytes → Answer (ℕ × (ℕ × Visit)) → Type 0
BeginsAs big s levels o n ts out out' (given (from, (len, v))) = LineBegins big s levels o n ts out out' from len v
BeginsAs big s levels o n ts out out' (refused q) = o ≡ refused q

abbrev pub TypeBegins : Bytes → SchemaLine → Shown → ℕ → List ℕ → Bytes → Bytes → Refusing TypeBegun → Type 0
TypeBegins s l w levels es out out' r =
    (x : Line) (cs : Schemas) (d : Dictionary) (ts : List Schema) (j : Option Info) → TypeAt s l levels x cs d ts → shown_in s l es w ≡ info_piece j
    → BeginsAs w.big s levels (type_written w.big j (schema (node_of x) cs d)) (below_lines (schema (node_of x) cs d)) ts out out' (begun_answer r)

-- a type's line is not much longer than its format and what it shows
abbrev pub type_length : Bytes → SchemaLine → Shown → List ℕ → ℕ
type_length s l w es = 108 + 21 * length (column_in s l.format) + length (shown_in s l es w)

-- the first subtrees were read up to `from`; with those that are visited and the last ones they are all below the node
abbrev pub FirstRead : Bytes → SchemaLine → ℕ → ℕ → Answer (ℕ × (ℕ × Visit)) → Type 0
FirstRead s l levels most (refused q) = Unit {0}
FirstRead s l levels most (given (from, (len, v))) =
    ReadsRow s l.end v.first levels (given from)
    × (v.first + v.count + v.last ≡ l.dictionary + l.children)
    × (len ≤ most)

abbrev pub BegunTold : Bytes → SchemaLine → Shown → ℕ → List ℕ → Bytes → Bytes → Refusing TypeBegun → Type 0
BegunTold s l w levels es out out' r = FirstRead s l levels (type_length s l w es) (begun_answer r) × TypeBegins s l w levels es out out' r

-- ── what is left

-- what is left is skipped
abbrev pub Ends : Bytes → ℕ → Size → List Schema → Answer (ℕ × Size) → Type 0
Ends s at size ts (refused q) = ⊥
Ends s at size ts (given (next, size')) = (size' ≡ size) × Standing (drop next s) ts × (at ≤ next) × (next ≤ length s)

abbrev pub TypeEnds : Bytes → ℕ → ℕ → ℕ → Size → Refusing (ℕ × Size) → Type 0
TypeEnds s at count levels size r = (us ts : List Schema) → LeftAt s at count levels us ts → Ends s at size ts (answer_of r)

-- what is left was read
abbrev pub LastRead : Bytes → ℕ → ℕ → ℕ → Size → Answer (ℕ × Size) → Type 0
LastRead s at count levels size (refused q) = Unit {0}
LastRead s at count levels size (given (next, size')) = (size' ≡ size) × ReadsRow s at count levels (given next)

abbrev pub EndedTold : Bytes → ℕ → ℕ → ℕ → Size → Refusing (ℕ × Size) → Type 0
EndedTold s at count levels size r = LastRead s at count levels size (answer_of r) × TypeEnds s at count levels size r

-- what was pending is refused now
abbrev pub ended_field : Answer (Unit {0}) → ℕ → Size → Answer (ℕ × Size)
ended_field (given u) next size = given (next, size)
ended_field (refused q) next size = refused q

abbrev pub FieldEnds : Refusing (Unit {0}) → ℕ → Size → Refusing (ℕ × Size) → Type 0
FieldEnds p next size r = answer_of r ≡ ended_field (answer_of p) next size

-- ── a node's own lines

-- where its visited subtrees stand, how long its lines are, what is to be done below, and what is pending; or the refusal
abbrev pub node_answer : Refusing NodeBegun → Answer (ℕ × (ℕ × (Visit × Answer (Unit {0}))))
node_answer (Ok b) = given (b.from, (b.len, (b.visit, answer_of b.pending)))
node_answer (Err r) = refused (refusal_of r)

-- the node's line was read, and the first subtrees below it up to `from`
pub record NodeRead (s : Bytes) (t : Tree) (from len : ℕ) (v : Visit) : Type 0 where
  pub line : SchemaLine
  pub there : LineAt s t.at line
  pub first : ReadsRow s line.end v.first (t.levels - 1) (given from)
  pub all : v.first + v.count + v.last ≡ line.dictionary + line.children
  pub long : len + 32 * t.at ≤ 32 * from

-- The tree u stands there: its own lines are written, or a refusal of its own is pending; from `from` on stand the trees us that it visits, then vs that it does
-- not, then ts.
pub record NodeBegins (s : Bytes) (t : Tree) (u : Schema) (ts : List Schema) (out out' : Bytes) (from len : ℕ) (v : Visit) (pending : Answer (Unit {0})) : Type 0 where
  pub us : Schemas
  pub vs : List Schema
  pub own : Answer (List Bytes)
  pub visited : FieldsAt s from v.count (t.levels - 1) us (vs ++ ts)
  pub others : length vs ≡ v.last
  pub low : tallest schema_levels vs ≤ t.levels - 1
  pub becomes : written t.big t.bare u ≡ (row_written t.big v.bare us >>= λ ls. own >>= λ a. given (a ++ ls))
  pub lines : import_lines u ≡ 1 + row_lines us
  pub pends : pending ≡ (own >>= λ a. given tt)
  pub put : (a : List Bytes) → own ≡ given a → PutFirst (ended a) len out out'

abbrev pub NodeAs : Bytes → Tree → Bytes → Bytes → Answer (ℕ × (ℕ × (Visit × Answer (Unit {0})))) → Type 0
NodeAs s t out out' (refused q) = (u : Schema) (ts : List Schema) → FieldAt s t.at t.levels u ts → written t.big t.bare u ≡ refused q
NodeAs s t out out' (given (from, (len, (v, p)))) =
    NodeRead s t from len v × ((u : Schema) (ts : List Schema) → FieldAt s t.at t.levels u ts → NodeBegins s t u ts out out' from len v p)

abbrev pub NodeTold : Bytes → Tree → Bytes → Bytes → Refusing NodeBegun → Type 0
NodeTold s t out out' r = NodeAs s t out out' (node_answer r)
