-- Import answers at most 19 bytes for each 13 that were handed in. It is shown node by node, with every line's end counted. A schema line has two digits
-- for each byte of its format, the name's column, the metadata's column, the count of its children, and at least 8 bytes more: the flags, the dictionary,
-- six separators. What it becomes has the type's columns, which the format bounds (`ImportRoomFormat`), a name's column of the same length, pairs and an
-- extension's line, which the metadata's column bounds (`ImportRoomMetadata`), and a count that is no longer. Nodes that are not visited have lines in the
-- schema sheet alone. By the mutual recursion of the definitions. Assumes nothing.
use mathlib.Core.Path.{◌≡◌, refl, ap, subst}
use mathlib.Core.Bool.{Bool}
use Rattle.std.specs.Prelude.{Option, None, Some}
use Prim.Native.Nat.{ℕ, suc, ◌+◌, ◌*◌, ◌≤◌}
use native.Mathlib.Omega.{arith}
use lib.IntN.{ℤ}
use lib.ListN.{length}
use Rattle.sheets.specs.Refusal.{not_utf8}
use Rattle.sheets.specs.Rule.{is}
use Rattle.sheets.specs.Bytes.{Bytes}
use Rattle.sheets.specs.Answer.{Answer}
use Rattle.sheets.specs.Number.{decimal}
use Rattle.sheets.specs.Text.{write_text}
use Rattle.sheets.specs.Utf8.{is_utf8}
use Rattle.sheets.specs.Flags.{is_ordered, is_sorted, nullable}
use Rattle.sheets.specs.Schema.{Node, Schema, schema, Schemas, end, ◌&◌, Dictionary, absent, present, count_schemas, count_dictionary}
use Rattle.sheets.specs.Field.{Info, ArrowDataType, Fields, add, Field, count_fields}
use Rattle.sheets.specs.FieldSheet.{type_lines, field_heading}
use Rattle.sheets.specs.Format.{Format, of_scalar, of_nesting, of_grouping}
use Rattle.sheets.specs.Metadata.{Extension}
use Rattle.sheets.specs.Import.{format_text, name_text, first_of, all_of, type_of, to_dtype, extended, to_field, to_fields, to_values}
use Rattle.sheets.specs.Outcome.{imported, import_outcome_in}
use Rattle.sheets.proofs.Tests.{not_some, same_some}
use Rattle.rooms.specs.Room.{import_room, Fits, HasRoom}
use Rattle.rooms.proofs.RoomLaws.{Gives, gives_refused, gives_given, gives_more, gives_then, gives_when, AtMost, answer_fits, answer_has_room}
use Rattle.rooms.proofs.Sizes.{sheet_size, decimal_least, signed_least, flag_size, text_least, text_size_lem, type_size, bare_size, fields_size, add_size, type_size_lem, bare_least, scalar_size, nested_size, grouped_size, dictionary_size_lem, schema_size, children_size, dictionary_size, child_size, schema_size_lem, schema_gives}
use Rattle.rooms.proofs.ImportRoomFormat.{FormatBounded, format_bounded, index_bounded}
use Rattle.rooms.proofs.ImportRoomMetadata.{MetadataBounded, metadata_bounded}

-- ── the bounds

-- a field's lines, by schema lines of n bytes
abbrev FieldBounded : ℕ → Field → Type 0
FieldBounded n f = 13 * type_size f.type (Some f.info) ≤ 19 * n

-- the fields of all children, by the children's lines
abbrev FieldsBounded : Schemas → Fields → Type 0
FieldsBounded cs fs = (count_fields fs ≡ count_schemas cs) × (13 * fields_size fs ≤ 19 * children_size cs)

-- a type's bare lines, by its format, the count of its children, and what is below; 183 is 105 for the first five columns and 13 for each of the six bytes
-- that show nothing of a field
abbrev TypeBounded : Bytes → Schemas → Dictionary → ArrowDataType → Type 0
TypeBounded f cs d t =
    13 * bare_size t ≤ 38 * length f + 183 + 13 * suc (length (decimal (count_schemas cs))) + 19 * (children_size cs + dictionary_size d)

-- what is below a node: its first child, all its children, its dictionary
record BelowBounded (big : Bool) (cs : Schemas) (d : Dictionary) : Type 0 where
  first : Gives (FieldBounded (children_size cs)) (first_of (to_fields big cs))
  all : Gives (FieldsBounded cs) (all_of (to_fields big cs))
  values : (a : Answer Field) → to_values big d ≡ Some a → Gives (FieldBounded (dictionary_size d)) a

-- ── the type

module _ (big : Bool) where
  format_type : (f : Bytes) (cs : Schemas) → BelowBounded big cs absent → (g : Format) → FormatBounded (length f) g
      → Gives (TypeBounded f cs absent) (type_of g (to_fields big cs))
  format_type f cs below (of_scalar s) h = gives_given (omega (arith, scalar_size s, decimal_least (count_schemas cs)))
  format_type f cs below (of_nesting n) h =
      gives_then below.first (λ c k. gives_given (omega (arith, nested_size n c.info c.type, decimal_least (count_schemas cs))))
  format_type f cs below (of_grouping g) h =
      gives_then below.all (λ fs k. gives_given (omega (arith, grouped_size g fs, ap (λ n. length (decimal n)) k.0, k.1)))

  dictionary_type : (f : Bytes) (flags : ℤ) (cs : Schemas) (v : Schema) → BelowBounded big cs (present v)
      → Gives (TypeBounded f cs (present v)) (to_dtype f flags (to_fields big cs) (Some (to_field big v)))
  dictionary_type f flags cs v below =
      gives_then (index_bounded (is_ordered flags) f)
      (λ ix h. gives_then (below.values (to_field big v) refl)
      (λ c k. gives_given
      (omega (arith, dictionary_size_lem ix (is_ordered flags) c.type, bare_least c.type (Some c.info), decimal_least (count_schemas cs)))))

  type_bounded : (f : Bytes) (flags : ℤ) (cs : Schemas) (d : Dictionary) → BelowBounded big cs d
      → Gives (TypeBounded f cs d) (to_dtype f flags (to_fields big cs) (to_values big d))
  type_bounded f flags cs absent below = gives_then (format_bounded (is_sorted flags) f) (λ g h. format_type f cs below g h)
  type_bounded f flags cs (present v) below = dictionary_type f flags cs v below

-- ── the node

format_size : (o : Option Bytes) → Gives (λ f. 2 * length f ≤ length (write_text o)) (format_text o)
format_size None = gives_refused
format_size (Some b) = gives_when not_utf8 (is (is_utf8 b)) b (λ _. text_size_lem (Some b))

name_size : (o : Option Bytes) → Gives (λ m. length (write_text (Some m)) ≤ length (write_text o)) (name_text o)
name_size None = gives_given (omega arith)
name_size (Some b) = gives_when not_utf8 (is (is_utf8 b)) b (λ _. omega arith)

module _ (big : Bool) where
  module _ (n : Node) (cs : Schemas) (d : Dictionary) where
    parts_bounded : (f : Bytes) (t : ArrowDataType) (e : Option Extension) (i : Info)
        → 2 * length f ≤ length (write_text n.format) → TypeBounded f cs d t
        → MetadataBounded n.metadata t (i.pairs, e) → length (write_text (Some i.name)) ≤ length (write_text n.name)
        → FieldBounded (schema_size (schema n cs d)) (record { info = i; type = extended e t })
    parts_bounded f t e i format type metadata name =
        omega (
          arith,
          schema_size_lem n cs d,
          signed_least n.flags,
          decimal_least (count_dictionary d),
          type_size_lem (extended e t) (Some i),
          flag_size i.nullable,
          text_least n.metadata,
          text_least n.name,
          decimal_least (count_schemas cs),
        )

    node_bounded : BelowBounded big cs d → Gives (FieldBounded (schema_size (schema n cs d))) (to_field big (schema n cs d))
    node_bounded below =
        gives_then (format_size n.format)
        (λ f format. gives_then (type_bounded big f n.flags cs d below)
        (λ t type. gives_then (metadata_bounded big n.metadata t)
        (λ p metadata. gives_then (name_size n.name)
        (λ m name. gives_given
        (parts_bounded f t p.1 (record { name = m; nullable = nullable n.flags; pairs = p.0 }) format type metadata name)))))

-- ── the tree

more_bounded : (s : Schema) (ss : Schemas) (f : Field) (fs : Fields) → FieldBounded (schema_size s) f → FieldsBounded ss fs
    → FieldsBounded (s & ss) (add f.info f.type fs)
more_bounded s ss f fs h k =
    (ap suc k.0, omega (arith, h, k.1, add_size f.info f.type fs, child_size s ss))

module _ (big : Bool) where
  mutual
    schema_bounded : (s : Schema) → Gives (FieldBounded (schema_size s)) (to_field big s)
    schema_bounded (schema n cs d) = node_bounded big n cs d (record { first = first_bounded cs; all = all_bounded cs; values = λ a e. values_bounded d a e })

    first_bounded : (cs : Schemas) → Gives (FieldBounded (children_size cs)) (first_of (to_fields big cs))
    first_bounded end = gives_refused
    first_bounded (s & ss) = gives_more (λ f h. omega (arith, child_size s ss)) (schema_bounded s)

    all_bounded : (cs : Schemas) → Gives (FieldsBounded cs) (all_of (to_fields big cs))
    all_bounded end = gives_given (refl, omega arith)
    all_bounded (s & ss) = gives_then (schema_bounded s) (λ f h. gives_then (all_bounded ss) (λ fs k. gives_given (more_bounded s ss f fs h k)))

    values_bounded : (d : Dictionary) (a : Answer Field) → to_values big d ≡ Some a → Gives (FieldBounded (dictionary_size d)) a
    values_bounded absent a e = not_some e
    values_bounded (present s) a e = subst (Gives (FieldBounded (schema_size s))) (same_some e) (schema_bounded s)

  -- ── the sheet and the call

  import_at_most : (b : Bytes) → AtMost (import_room (length b)) (imported big b)
  unfolding imported
  import_at_most b =
      gives_then (schema_gives b)
      (λ s e. gives_then (schema_bounded s)
      (λ f h. gives_given (omega (arith, e, h, sheet_size field_heading (type_lines f.type (Some f.info))))))

  pub import_fits : (b out : Bytes) → Fits (import_room (length b)) (import_outcome_in big b out)
  import_fits b out = answer_fits (import_room (length b)) (imported big b) out (import_at_most b)

  pub import_has_room : (b out : Bytes) → HasRoom (import_room (length b)) out (import_outcome_in big b out)
  import_has_room b out = answer_has_room (import_room (length b)) (imported big b) out (import_at_most b)
