-- Import line by line: what a node's lines say, and which nodes it visits. A node's lines are that of its extension, if its metadata names one, that of
-- its type, then those of what its type visits; it is refused first for its format, then for its type, then for what it visits, and "Then come metadata,
-- then the name". `written` is what `Import` makes of a schema; `proofs/ImportLaws` shows that it goes line by line. Assumes nothing.
use Rattle.std.specs.Prelude.{Bool, true, false, List, [], ◌++◌, ℕ, zero, suc, ℤ, Option, None, Some}
use Rattle.sheets.specs.Refusal.{no_child}
use Rattle.sheets.specs.Bytes.{Bytes}
use Rattle.sheets.specs.Answer.{Answer, refused, given, ◌>>=◌}
use Rattle.sheets.specs.Schema.{Node, Schema, schema, Schemas, end, ◌&◌, Dictionary, absent, present}
use Rattle.sheets.specs.Field.{Info}
use Rattle.sheets.specs.FieldSheet.{Shape, type_lines}
use Rattle.sheets.specs.FieldSheet.{of_scalar as scalar_shape, of_nesting as nesting_shape, of_grouping as grouping_shape, of_dictionary, of_extension}
use Rattle.sheets.specs.Flags.{is_ordered, is_sorted, nullable}
use Rattle.sheets.specs.Format.{Format, of_scalar, of_nesting, of_grouping, read_format, to_integer_type}
use Rattle.sheets.specs.Metadata.{Extension, metadata_from_bytes}
use Rattle.sheets.specs.Import.{format_text, name_text, to_dtype, to_field, to_fields, to_values}

-- ── what a node's own lines say

-- the type that a format tells over so many children: 10 "needed child absent"
abbrev pub needed : Format → ℕ → Answer Shape
needed (of_scalar s) children = given (scalar_shape s)
needed (of_nesting n) zero = refused no_child
needed (of_nesting n) (suc children) = given (nesting_shape n)
needed (of_grouping g) children = given (grouping_shape g)

-- The type of a node: its format's text, its flags, how many children and dictionaries it has. "a dictionary line checks its index format, then its
-- dictionary; `+w` its size before its child"
abbrev pub node_shape : Bytes → ℤ → ℕ → ℕ → Answer Shape
node_shape f flags children zero = read_format (is_sorted flags) f >>= λ g. needed g children
node_shape f flags children (suc d) = to_integer_type f >>= λ ix. given (of_dictionary ix (is_ordered flags))

-- the number of subtrees below the node's line: "`children` is 1 for lists, map, dictionary and extension, free for struct and union, else 0"
abbrev pub below : Shape → ℕ → ℕ
below (scalar_shape s) children = 0
below (nesting_shape n) children = 1
below (grouping_shape g) children = children
below (of_dictionary ix ordered) children = 1
below (of_extension n m) children = 1

-- what a node says of its field: the metadata's pairs and extension, then the name
abbrev pub Own : Type 0
Own = Info × Option Extension

abbrev pub own_of : Bool → Node → Answer Own
own_of big n = do
  (pairs, e) ← metadata_from_bytes big n.metadata
  name ← name_text n.name
  given (record { name = name; nullable = nullable n.flags; pairs = pairs }, e)

-- "bare lines: `name`, `nullable` and `pairs` all `~`"
abbrev pub shown : Bool → Info → Option Info
shown true i = None
shown false i = Some i

-- ── the lines of a node and of what it visits; `big` is the order of the metadata (document 02, #104)

-- the lines that a schema becomes
abbrev pub written : Bool → Bool → Schema → Answer (List Bytes)
written big bare s = to_field big s >>= λ f. given (type_lines f.type (shown bare f.info))

-- the lines of a schema's type, whose first line shows what is given of a field: "A field is read through its type, and a type through its fields"
abbrev pub type_written : Bool → Option Info → Schema → Answer (List Bytes)
type_written big j (schema n cs d) = do
  f ← format_text n.format
  t ← to_dtype f n.flags (to_fields big cs) (to_values big d)
  given (type_lines t j)

-- of schemas one after the other
abbrev pub row_written : Bool → Bool → Schemas → Answer (List Bytes)
row_written big bare end = given []
row_written big bare (s & ss) = written big bare s >>= λ a. row_written big bare ss >>= λ b. given (a ++ b)

-- the schemas that a node of this type visits: "Lists and map use their first child only"; a dictionary its dictionary; struct and union all children
abbrev pub visited : Shape → Schemas → Dictionary → Schemas
visited (scalar_shape s) cs d = end
visited (nesting_shape n) end d = end
visited (nesting_shape n) (c & cs) d = c & end
visited (grouping_shape g) cs d = cs
visited (of_dictionary ix ordered) cs absent = end
visited (of_dictionary ix ordered) cs (present v) = v & end
visited (of_extension n m) cs d = end

-- "A dictionary's values and an extension's inner type are bare lines"
abbrev pub is_bare : Shape → Bool
is_bare (scalar_shape s) = false
is_bare (nesting_shape n) = false
is_bare (grouping_shape g) = false
is_bare (of_dictionary ix ordered) = true
is_bare (of_extension n m) = true
