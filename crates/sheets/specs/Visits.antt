-- Document 02, #105: "the number of lines it would visit". The lines that import and export visit, in sheet order, as lists, and their number; and what two
-- trees have in common that differ on other lines alone. In which sense these are the lines visited is shown in proofs/VisitedLaws: what is answered is told
-- by these lines alone, and where a sheet is accepted each of them was read. A sheet that is refused has no counts, so it does not matter what is said of a
-- format that cannot be read. Assumes nothing.
use Rattle.std.specs.Prelude.{◌≡◌, Bool, true, false, List, [], ◌∷◌, ◌++◌, ℕ, ◌+◌, length, Option, None, Some}
use Rattle.sheets.specs.Answer.{Answer, refused, given, ◌>>=◌}
use Rattle.sheets.specs.Flags.{is_sorted}
use Rattle.sheets.specs.Schema.{Node, Schema, schema, Schemas, end, ◌&◌, Dictionary, absent, present, Line, line_of, count_schemas, count_dictionary}
use Rattle.sheets.specs.Field.{Info, ArrowDataType, scalar, nested, grouped, dictionary, extension, Fields, nil, add, Field}
use Rattle.sheets.specs.FieldTrees.{Head, entry_head}
use Rattle.sheets.specs.Format.{Format, of_scalar, of_nesting, of_grouping, read_format}
use Rattle.sheets.specs.Import.{format_text}

-- ── import: lines of the schema sheet

-- what a node's format says
abbrev pub format_of : Node → Answer Format
format_of n = format_text n.format >>= λ f. read_format (is_sorted n.flags) f

-- the lines of the children that a format asks for: "Lists and map use their first child only", "struct and union all"
abbrev pub first_lines : List (List Line) → List Line
first_lines [] = []
first_lines (c ∷ cs) = c

abbrev pub every_line : List (List Line) → List Line
every_line [] = []
every_line (c ∷ cs) = c ++ every_line cs

abbrev pub lines_asked : Answer Format → List (List Line) → List Line
lines_asked (refused r) children = []
lines_asked (given (of_scalar s)) children = []
lines_asked (given (of_nesting n)) children = first_lines children
lines_asked (given (of_grouping g)) children = every_line children

-- "a schema with ignored children counts less than its sheet has": a dictionary's values are read in their place
abbrev pub lines_below : Node → List (List Line) → Option (List Line) → List Line
lines_below n children None = lines_asked (format_of n) children
lines_below n children (Some values) = values

-- the node's own line, then those below it; an extension that its metadata makes is no line of the schema sheet
abbrev mutual
  pub import_visits : Schema → List Line
  import_visits (schema n cs d) = line_of n (count_schemas cs) (count_dictionary d) ∷ lines_below n (children_visits cs) (values_visits d)

  pub children_visits : Schemas → List (List Line)
  children_visits end = []
  children_visits (s & ss) = import_visits s ∷ children_visits ss

  pub values_visits : Dictionary → Option (List Line)
  values_visits absent = None
  values_visits (present s) = Some (import_visits s)

unfoldable pub import_lines : Schema → ℕ
import_lines s = length (import_visits s)

-- below the schema's first line
unfoldable pub below_lines : Schema → ℕ
below_lines (schema n cs d) = length (lines_below n (children_visits cs) (values_visits d))

-- for schemas one after the other
abbrev pub row_lines : Schemas → ℕ
row_lines end = 0
row_lines (s & ss) = import_lines s + row_lines ss

-- ── export: lines of the field sheet

-- "on export an extension's inner line counts, the values of a dictionary directly under an extension do not": the flag says that the type stands directly
-- in an extension
abbrev mutual
  pub export_visits : ArrowDataType → Option Info → Bool → List Head
  export_visits (scalar s) i inside = entry_head (i, scalar s) ∷ []
  export_visits (nested n j t) i inside = entry_head (i, nested n j t) ∷ export_visits t (Some j) false
  export_visits (grouped g fs) i inside = entry_head (i, grouped g fs) ∷ visits_of_fields fs
  export_visits (dictionary ix ordered t) i false = entry_head (i, dictionary ix ordered t) ∷ export_visits t None false
  export_visits (dictionary ix ordered t) i true = entry_head (i, dictionary ix ordered t) ∷ []
  export_visits (extension n m t) i inside = entry_head (i, extension n m t) ∷ export_visits t None true

  pub visits_of_fields : Fields → List Head
  visits_of_fields nil = []
  visits_of_fields (add i t fs) = export_visits t (Some i) false ++ visits_of_fields fs

unfoldable pub export_lines : Field → ℕ
export_lines f = length (export_visits f.type (Some f.info) false)

-- ── trees that differ on other lines alone

-- the dictionary's values, or else what the format asks for, of what is said of the first child and of all
abbrev pub SameAsked : Answer Format → Dictionary → Type 0 → Type 0 → Type 0 → Type 0
SameAsked a (present v) first all values = values
SameAsked (refused r) absent first all values = Unit {0}
SameAsked (given (of_scalar s)) absent first all values = Unit {0}
SameAsked (given (of_nesting n)) absent first all values = first
SameAsked (given (of_grouping g)) absent first all values = all

-- Two schemas that say the same on each line that import visits. On any other line, and below it, each may say what it likes.
abbrev mutual
  pub SameForImport : Schema → Schema → Type 0
  SameForImport (schema n cs d) (schema m bs e) =
      (line_of n (count_schemas cs) (count_dictionary d) ≡ line_of m (count_schemas bs) (count_dictionary e)) × SameAsked (format_of n) d (SameFirst cs bs) (SameEach cs bs) (SameValues d e)

  pub SameFirst : Schemas → Schemas → Type 0
  SameFirst end bs = Unit {0}
  SameFirst (c & cs) end = Unit {0}
  SameFirst (c & cs) (b & bs) = SameForImport c b

  pub SameEach : Schemas → Schemas → Type 0
  SameEach end bs = Unit {0}
  SameEach (c & cs) end = Unit {0}
  SameEach (c & cs) (b & bs) = SameForImport c b × SameEach cs bs

  pub SameValues : Dictionary → Dictionary → Type 0
  SameValues absent e = Unit {0}
  SameValues (present v) absent = Unit {0}
  SameValues (present v) (present w) = SameForImport v w

-- Two types that say the same on each line that export visits: only under a dictionary that stands directly in an extension each may say what it likes.
abbrev mutual
  pub SameForExport : ArrowDataType → ArrowDataType → Bool → Type 0
  SameForExport (scalar s) u inside = u ≡ scalar s
  SameForExport (nested n j t) u inside = (w : ArrowDataType) × (u ≡ nested n j w) × SameForExport t w false
  SameForExport (grouped g fs) u inside = (hs : Fields) × (u ≡ grouped g hs) × SameFields fs hs
  SameForExport (dictionary ix ordered t) u false = (w : ArrowDataType) × (u ≡ dictionary ix ordered w) × SameForExport t w false
  SameForExport (dictionary ix ordered t) u true = (w : ArrowDataType) × (u ≡ dictionary ix ordered w)
  SameForExport (extension n m t) u inside = (w : ArrowDataType) × (u ≡ extension n m w) × SameForExport t w true

  pub SameFields : Fields → Fields → Type 0
  SameFields nil hs = hs ≡ nil
  SameFields (add i t fs) hs = (w : ArrowDataType) × (rest : Fields) × (hs ≡ add i w rest) × SameForExport t w false × SameFields fs rest
