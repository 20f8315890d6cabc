-- Import: `to_field` and `to_dtype`, a field from a schema. "A field is read through its type, and a type through its fields." Assumes nothing.
use Rattle.std.specs.Prelude.{Bool, List, [], ◌∷◌, ℤ, Option, None, Some}
use Rattle.sheets.specs.Refusal.{null_format, not_utf8, no_child}
use Rattle.sheets.specs.Bytes.{Bytes}
use Rattle.sheets.specs.Rule.{is}
use Rattle.sheets.specs.Answer.{Answer, refused, given, ◌>>=◌, when}
use Rattle.sheets.specs.Flags.{is_ordered, is_sorted, nullable}
use Rattle.sheets.specs.Utf8.{is_utf8}
use Rattle.sheets.specs.Schema.{Node, Schema, schema, Schemas, end, ◌&◌, Dictionary, absent, present}
use Rattle.sheets.specs.Field.{ArrowDataType, scalar, nested, grouped, dictionary, extension, Fields, nil, add, Field}
use Rattle.sheets.specs.Format.{Format, of_scalar, of_nesting, of_grouping, read_format, to_integer_type}
use Rattle.sheets.specs.Metadata.{Extension, metadata_from_bytes}

-- ── texts

-- 4 null format, 5 not UTF-8
abbrev pub format_text : Option Bytes → Answer Bytes
format_text None = refused null_format
format_text (Some b) = when not_utf8 (is (is_utf8 b)) b

-- "Null names read as empty", 5 not UTF-8
abbrev pub name_text : Option Bytes → Answer Bytes
name_text None = given []
name_text (Some b) = when not_utf8 (is (is_utf8 b)) b

-- ── a type from its format and its children's fields

-- "Lists and map use their first child only"; 10 "needed child absent"
abbrev pub first_of : List (Answer Field) → Answer Field
first_of [] = refused no_child
first_of (f ∷ fs) = f

-- struct and union use all
abbrev pub all_of : List (Answer Field) → Answer Fields
all_of [] = given nil
all_of (f ∷ fs) = f >>= λ a. all_of fs >>= λ rest. given (add a.info a.type rest)

-- the type that a format tells, over its fields; ids are never matched to fields
abbrev pub type_of : Format → List (Answer Field) → Answer ArrowDataType
type_of (of_scalar s) fs = given (scalar s)
type_of (of_nesting n) fs = first_of fs >>= λ f. given (nested n f.info f.type)
type_of (of_grouping g) fs = all_of fs >>= λ all. given (grouped g all)

-- `to_dtype` and the dictionary's half of `to_field`: "a dictionary line checks its index format, then its dictionary"
abbrev pub to_dtype : Bytes → ℤ → List (Answer Field) → Option (Answer Field) → Answer ArrowDataType
to_dtype f flags children None = read_format (is_sorted flags) f >>= λ g. type_of g children
to_dtype f flags children (Some values) = do
  ix ← to_integer_type f
  v ← values
  given (dictionary ix (is_ordered flags) v.type)

-- the type under its extension, if the metadata names one
abbrev pub extended : Option Extension → ArrowDataType → ArrowDataType
extended None t = t
extended (Some e) t = extension e.0 e.1 t

-- `to_field`: the format and what is below, "Then come metadata, then the name". The first argument says that the metadata is big-endian (document 02, #104:
-- "import, export and every later call built on them take it and pass it on")
abbrev pub to_field_node : Bool → Node → List (Answer Field) → Option (Answer Field) → Answer Field
to_field_node big n children values = do
  f ← format_text n.format
  t ← to_dtype f n.flags children values
  (pairs, e) ← metadata_from_bytes big n.metadata
  name ← name_text n.name
  given (record { info = record { name = name; nullable = nullable n.flags; pairs = pairs }; type = extended e t })

-- An answer for each node. "Lines the Rust never visits are tested for form only": the answers that no type asks for count for nothing.
abbrev mutual
  pub to_field : Bool → Schema → Answer Field
  to_field big (schema n cs d) = to_field_node big n (to_fields big cs) (to_values big d)

  pub to_fields : Bool → Schemas → List (Answer Field)
  to_fields big end = []
  to_fields big (s & ss) = to_field big s ∷ to_fields big ss

  pub to_values : Bool → Dictionary → Option (Answer Field)
  to_values big absent = None
  to_values big (present s) = Some (to_field big s)
