-- Export line by line (`Walk`), as code does it that writes a line's own output before it goes on to the lines below. Assumes nothing.
use Rattle.std.specs.Prelude.{Bool, List, [], ◌∷◌, ℕ, ◌+◌, pos, Option, None, Some}
use Rattle.sheets.specs.Refusal.{zero_byte}
use Rattle.sheets.specs.Rule.{◌and◌}
use Rattle.sheets.specs.Bytes.{Bytes, lacks}
use Rattle.sheets.specs.Answer.{Answer, given, ◌>>=◌, when}
use Rattle.sheets.specs.Flags.{ORDERED, NULLABLE}
use Rattle.sheets.specs.Schema.{schema_line, schema_lines, children_lines}
use Rattle.sheets.specs.Schema.{line_of as schema_line_of}
use Rattle.sheets.specs.Field.{Info, ArrowDataType, Fields}
use Rattle.sheets.specs.FieldSheet.{Shape, of_scalar, of_nesting, of_grouping, of_dictionary, of_extension}
use Rattle.sheets.specs.FieldTrees.{Head}
use Rattle.sheets.specs.Format.{scalar_format, nesting_format, grouping_format, index_format}
use Rattle.sheets.specs.Metadata.{Extension, schema_metadata}
use Rattle.sheets.specs.Export.{flag, sorted_flag, values_info, outermost, schema_new_of, schema_children}
use Rattle.sheets.specs.Walk.{visit, skip, Step, writes}

-- the schema lines that a type becomes; `big` is the order of the metadata (document 02, #104)
abbrev pub schema_written : Bool → ArrowDataType → Info → Option Extension → Answer (List Bytes)
schema_written big t i e = schema_new_of big t i e >>= λ s. given (schema_lines s)

abbrev pub children_written : Bool → Fields → Answer (List Bytes)
children_written big fs = schema_children big fs >>= λ cs. given (children_lines cs)

-- What the line under an extension gets: the columns of its field and the outermost extension. Both stand in one line, the first of the field.
pub record Bearer : Type 0 where
  pub info : Info
  pub extension : Extension

-- a bare line that is no extension's inner line is a dictionary's values'
abbrev pub or_values : Option Info → Info
or_values None = values_info
or_values (Some i) = i

-- the field's columns and the extension, at a line with these columns: directly under an extension from the state, else the line's own and none
abbrev pub info_of : Option Bearer → Option Info → Info
info_of None i = or_values i
info_of (Some w) i = w.info

abbrev pub extension_of : Option Bearer → Option Extension
extension_of None = None
extension_of (Some w) = Some w.extension

-- the schema line, with its format, its other flags, children and dictionary; 14 is pending
abbrev pub schema_own : Bool → Info → Option Extension → Bytes → ℕ → ℕ → ℕ → Answer (List Bytes)
schema_own big i e f flags children values =
    when zero_byte (lacks 0 i.name and lacks 0 f)
    (schema_line.write (schema_line_of (record { format = Some f; name = Some i.name; flags = pos (flag i.nullable NULLABLE + flags); metadata = schema_metadata big i.pairs e }) children values) ∷ [])

-- `ArrowSchema::new` at one line, with the columns of its field and the extension directly around it: 12 and 13 come at once. An extension's line
-- writes nothing. "A dictionary directly under extensions is written as its index type alone": its values are skipped.
abbrev pub schema_step_of : Bool → Shape → ℕ → Info → Option Extension → Answer (Step (Option Bearer))
schema_step_of big (of_scalar s) n i e = scalar_format s >>= λ f. given (writes (schema_own big i e f 0 0 0) skip)
schema_step_of big (of_nesting g) n i e = given (writes (schema_own big i e (nesting_format g) (sorted_flag g) 1 0) (visit None))
schema_step_of big (of_grouping g) n i e = grouping_format g n >>= λ f. given (writes (schema_own big i e f 0 n 0) (visit None))
schema_step_of big (of_dictionary ix ordered) n i None = index_format ix >>= λ f. given (writes (schema_own big i None f (flag ordered ORDERED) 0 1) (visit None))
schema_step_of big (of_dictionary ix ordered) n i (Some e) = index_format ix >>= λ f. given (writes (schema_own big i (Some e) f 0 0 0) skip)
schema_step_of big (of_extension a m) n i e = given (writes (given []) (visit (Some (record { info = i; extension = outermost e (a, m) }))))

abbrev pub schema_step : Bool → Option Bearer → Head → Answer (Step (Option Bearer))
schema_step big u x = schema_step_of big x.shape x.children (info_of u x.info) (extension_of u)

-- the extension that a line says, which is the outermost at the first line of a field
abbrev pub extension_in : Shape → Option Extension
extension_in (of_scalar s) = None
extension_in (of_nesting g) = None
extension_in (of_grouping g) = None
extension_in (of_dictionary ix ordered) = None
extension_in (of_extension a m) = Some (a, m)
