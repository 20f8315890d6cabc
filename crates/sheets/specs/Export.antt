-- Export: `ArrowSchema::new`, a schema from a field. Assumes nothing.
use Rattle.std.specs.Prelude.{Bool, true, false, [], ℕ, ◌+◌, leb, ℤ, pos, negsuc, Option, None, Some}
use Rattle.sheets.specs.Refusal.{zero_byte}
use Rattle.sheets.specs.Bytes.{Bytes, lacks}
use Rattle.sheets.specs.Rule.{Rule, is, ◌and◌}
use Rattle.sheets.specs.Answer.{Answer, given, ◌>>=◌, when}
use Rattle.sheets.specs.Flags.{ORDERED, NULLABLE, SORTED}
use Rattle.sheets.specs.Schema.{Node, Schema, schema, Schemas, end, ◌&◌, Dictionary, absent, present}
use Rattle.sheets.specs.Field.{Info, Nesting, list, large_list, fixed_size_list, map, ArrowDataType, scalar, nested, grouped, dictionary, extension, Fields, nil, add, Field}
use Rattle.sheets.specs.Format.{to_format}
use Rattle.sheets.specs.Metadata.{Extension, schema_metadata}

-- the flag if it is set
abbrev pub flag : Bool → ℕ → ℕ
flag true n = n
flag false n = 0

-- sorted map keys
abbrev pub sorted_flag : Nesting → ℕ
sorted_flag list = 0
sorted_flag large_list = 0
sorted_flag (fixed_size_list n) = 0
sorted_flag (map sorted) = flag sorted SORTED

-- The node of a field, with its format, its other flags and the extension that it stands for; 14 "byte 00 in a line's `name` or timezone". The first
-- argument says that the metadata is big-endian (document 02, #104).
abbrev pub schema_node : Bool → Info → Option Extension → Bytes → ℕ → Schemas → Dictionary → Answer Schema
schema_node big i e f flags cs d =
    when zero_byte (lacks 0 i.name and lacks 0 f)
    (schema (record { format = Some f; name = Some i.name; flags = pos (flag i.nullable NULLABLE + flags); metadata = schema_metadata big i.pairs e }) cs d)

-- a dictionary's values bear no name and are nullable
abbrev pub values_info : Info
values_info = record { name = []; nullable = true; pairs = None }

-- "for the outermost extension only"
abbrev pub outermost : Option Extension → Extension → Extension
outermost None e = e
outermost (Some o) e = o

-- `ArrowSchema::new` by the type: the format (12, 13), what is below, then the node (14). The third argument is the outermost extension directly
-- around the type: "A dictionary directly under extensions is written as its index type alone."
abbrev mutual
  pub schema_new_of : Bool → ArrowDataType → Info → Option Extension → Answer Schema
  schema_new_of big (scalar s) i e = to_format (scalar s) >>= λ f. schema_node big i e f 0 end absent
  schema_new_of big (nested n j t) i e = to_format (nested n j t) >>= λ f. schema_new_of big t j None >>= λ c. schema_node big i e f (sorted_flag n) (c & end) absent
  schema_new_of big (grouped g fs) i e = to_format (grouped g fs) >>= λ f. schema_children big fs >>= λ cs. schema_node big i e f 0 cs absent
  schema_new_of big (dictionary ix ordered t) i None = to_format (dictionary ix ordered t) >>= λ f. schema_new_of big t values_info None >>= λ d. schema_node big i None f (flag ordered ORDERED) end (present d)
  schema_new_of big (dictionary ix ordered t) i (Some e) = to_format (dictionary ix ordered t) >>= λ f. schema_node big i (Some e) f 0 end absent
  schema_new_of big (extension n m t) i e = schema_new_of big t i (Some (outermost e (n, m)))

  -- `schema_children`
  pub schema_children : Bool → Fields → Answer Schemas
  schema_children big nil = given end
  schema_children big (add i t fs) = schema_new_of big t i None >>= λ c. schema_children big fs >>= λ cs. given (c & cs)

-- `ArrowSchema::new`
abbrev pub schema_new : Bool → Field → Answer Schema
schema_new big f = schema_new_of big f.type f.info None

-- document 02, #102: "Every line that export writes has flags from 0 to 7", a law (`ExportLaws.export_flags`)
abbrev pub zero_to_seven : ℤ → Rule
zero_to_seven (pos n) = is (leb n 7)
zero_to_seven (negsuc n) = is false

abbrev pub few_flags : Node → Rule
few_flags n = zero_to_seven n.flags
