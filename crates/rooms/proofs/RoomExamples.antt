-- How much of its room an answer can need. For import, export and plain form: a row of k lines, or of k fields with two lines each, becomes as many bytes
-- as the fraction says, for every k, but for the ids in export and plain form, which have four digits from 1,000 on; and a sheet of almost 65,535 bytes
-- with such a row. For the mappings: a field sheet that three of them answer as it was, and the conversion that needs 69 bytes. By computation of one line,
-- and induction over the row. Assumes nothing.
use mathlib.Core.Path.{◌≡◌, refl, ap}
use mathlib.Core.Bool.{true, false}
use mathlib.Core.List.{[], ◌∷◌, ◌++◌}
use mathlib.Core.List.{map as map_list}
use Rattle.std.specs.Prelude.{None, Some}
use Prim.Native.Nat.{ℕ, zero, suc, ◌+◌, ◌*◌, ◌≤◌}
use native.Mathlib.Omega.{arith}
use lib.IntN.{pos}
use lib.ListN.{length, replicate}
use Rattle.sheets.specs.Bytes.{Bytes, comma, ascii, lacks, join}
use Rattle.sheets.specs.Answer.{given}
use Rattle.sheets.specs.Number.{decimal, write_signed}
use Rattle.sheets.specs.Rule.{◌and◌, Meets}
use Rattle.sheets.specs.Kind
use Rattle.sheets.specs.PrimitiveType as Primitive
use Rattle.sheets.specs.Refusal.{zero_byte, no_room}
use Rattle.sheets.specs.Format.{rows}
use Rattle.sheets.specs.Schema.{Node, Schema, schema, Schemas, end, ◌&◌, absent, count_schemas, schema_lines, schema_heading, write_schema_sheet}
use Rattle.sheets.specs.Field.{Info, leaf, Grouping, struct, union, ArrowDataType, scalar, grouped, extension, Fields, nil, add, Field, count_fields, up_from}
use Rattle.sheets.specs.FieldSheet.{of_grouping, write_list, type_lines, fields_lines, field_heading, write_field_sheet}
use Rattle.sheets.specs.Import.{all_of, to_field, to_fields}
use Rattle.sheets.specs.Export.{schema_children, schema_new}
use Rattle.sheets.specs.Plain.{plain_fields, plain}
use Rattle.sheets.specs.Mappings.{leaf_rows}
use Rattle.sheets.specs.Outcome.{Outcome, outcome, underlying_physical_type_outcome, to_storage_outcome, to_storage_recursive_outcome, from_primitive_type_outcome}
use Rattle.sheets.proofs.Tests.{when_met}
use Rattle.sheets.proofs.BytesLaws.{each_lacks, join_lacks}
use Rattle.sheets.proofs.NumberLaws.{signed_lacks}
use Rattle.sheets.proofs.SizeLaws.{hex_length}
use Rattle.sheets.proofs.RoundTrip.{exported_node}
use Rattle.rooms.specs.Room.{import_room, export_room, plain_room, mapping_room, converted_room}
use Rattle.rooms.proofs.Sizes.{sheet_size, flag_size, shape_size, line_size, fields_size, children_size, node_size, schema_size_lem}

-- a field with an empty name
abbrev unnamed : Info
unnamed = record { name = []; nullable = false; pairs = None }

-- k fields of one type, and k schemas
abbrev field_row : Info → ArrowDataType → ℕ → Fields
field_row i t zero = nil
field_row i t (suc k) = add i t (field_row i t k)

abbrev schema_row : Schema → ℕ → Schemas
schema_row s zero = end
schema_row s (suc k) = s & schema_row s k

count_fields_lem : (i : Info) (t : ArrowDataType) (k : ℕ) → count_fields (field_row i t k) ≡ k
count_fields_lem i t zero = refl
count_fields_lem i t (suc k) = ap suc (count_fields_lem i t k)

count_schemas_lem : (s : Schema) (k : ℕ) → count_schemas (schema_row s k) ≡ k
count_schemas_lem s zero = refl
count_schemas_lem s (suc k) = ap suc (count_schemas_lem s k)

-- a sheet of one field over a row
grouped_length : (g : Grouping) (i : Info) (t : ArrowDataType) (k : ℕ)
    → length (write_field_sheet (record { info = unnamed; type = grouped g (field_row i t k) }))
    ≡ 55 + shape_size (of_grouping g) + length (decimal k) + fields_size (field_row i t k)
grouped_length g i t k =
    let row = field_row i t k in
    omega (
      arith,
      sheet_size field_heading (type_lines (grouped g row) (Some unnamed)),
      line_size (of_grouping g) (Some unnamed) (count_fields row) (fields_lines row),
      ap (λ (n : ℕ). length (decimal n)) (count_fields_lem i t k),
      flag_size false,
    )

-- and of one schema
schema_length : (n : Node) (s : Schema) (k : ℕ)
    → length (write_schema_sheet (schema n (schema_row s k) absent)) ≡ 50 + node_size n + length (decimal k) + children_size (schema_row s k)
schema_length n s k =
    let row = schema_row s k in
    omega (
      arith,
      sheet_size schema_heading (schema_lines (schema n row absent)),
      schema_size_lem n row absent,
      ap (λ (c : ℕ). length (decimal c)) (count_schemas_lem s k),
      flag_size false,
    )

-- ── import: `4c ~ 0 ~ 0 0`, 13 bytes, becomes `10 0 0 ~ ~ - 0 ~ 0`, 19 bytes

-- UInt64 without a name
abbrev uint64_schema : Schema
uint64_schema = schema (record { format = Some (ascii "L"); name = None; flags = pos 0; metadata = None }) end absent

abbrev uint64 : ArrowDataType
uint64 = scalar (leaf Kind.UInt64 0)

pub imported_from : (k : ℕ) → children_size (schema_row uint64_schema k) ≡ 13 * k
unfolding decimal
imported_from zero = refl
imported_from (suc k) = omega (arith, imported_from k)

pub import_row : (k : ℕ) → all_of (to_fields false (schema_row uint64_schema k)) ≡ given (field_row unnamed uint64 k)
unfolding rows
import_row zero = refl
import_row (suc k) = rw (import_row k)

pub imported_to : (k : ℕ) → fields_size (field_row unnamed uint64 k) ≡ 19 * k
unfolding decimal
imported_to zero = refl
imported_to (suc k) = omega (arith, imported_to k)

-- in a struct
abbrev struct_node : Node
struct_node = record { format = Some (ascii "+s"); name = None; flags = pos 0; metadata = None }

abbrev struct_schema : ℕ → Schema
struct_schema k = schema struct_node (schema_row uint64_schema k) absent

abbrev struct_field : ℕ → Field
struct_field k = record { info = unnamed; type = grouped struct (field_row unnamed uint64 k) }

pub import_struct : (k : ℕ) → to_field false (struct_schema k) ≡ given (struct_field k)
unfolding rows
import_struct k = rw (import_row k)

struct_from : (k : ℕ) → length (write_schema_sheet (struct_schema k)) ≡ 61 + length (decimal k) + 13 * k
unfolding decimal
struct_from k = omega (arith, schema_length struct_node uint64_schema k, imported_from k)

struct_to : (k : ℕ) → length (write_field_sheet (struct_field k)) ≡ 66 + length (decimal k) + 19 * k
unfolding decimal
struct_to k = omega (arith, grouped_length struct unnamed uint64 k, imported_to k)

-- 5,036 of them: a schema sheet of 65,533 bytes, whose field's sheet has 95,754; the room is no less
pub import_long : (length (write_schema_sheet (struct_schema 5036)) ≡ 65533) × ((length (write_field_sheet (struct_field 5036)) ≡ 95754) × (95754 ≤ import_room 65533))
unfolding decimal
import_long = (struct_from 5036, (struct_to 5036, omega arith))

-- ── ids of a union that has none

abbrev ids : ℕ → Bytes
ids k = join comma (map_list write_signed (up_from 0 k))

ids_lack : (n count : ℕ) → Meets (each_lacks 0 (map_list write_signed (up_from n count)))
ids_lack n zero = refl
ids_lack n (suc count) = (signed_lacks 0 refl (pos n), ids_lack (suc n) count)

-- ── export: `37 0 0 - - - 0 = 1` and `6 0 0 ~ ~ ~ ~ ~ 0`, 37 bytes, become a schema line of 168 bytes; an id of four digits with its comma is 10 more

abbrev paired : Info
paired = record { name = []; nullable = false; pairs = Some (([], []) ∷ []) }

abbrev extended : ArrowDataType
extended = extension [] (Some []) (scalar (leaf Kind.Int128 0))

abbrev extended_schema : Schema
extended_schema = schema (exported_node false paired (Some ([], Some [])) (ascii "_pli128") 0) end absent

pub exported_from : (k : ℕ) → fields_size (field_row paired extended k) ≡ 37 * k
unfolding decimal
exported_from zero = refl
exported_from (suc k) = omega (arith, exported_from k)

pub export_row : (k : ℕ) → schema_children false (field_row paired extended k) ≡ given (schema_row extended_schema k)
unfolding rows
export_row zero = refl
export_row (suc k) = rw (export_row k)

pub exported_to : (k : ℕ) → children_size (schema_row extended_schema k) ≡ 168 * k
unfolding decimal
exported_to zero = refl
exported_to (suc k) = omega (arith, exported_to k)

-- in a union without ids
abbrev union_field : ℕ → Field
union_field k = record { info = unnamed; type = grouped (union true None) (field_row paired extended k) }

abbrev union_node : ℕ → Node
union_node k = exported_node false unnamed None (ascii "+us:" ++ ids k) 0

abbrev union_schema : ℕ → Schema
union_schema k = schema (union_node k) (schema_row extended_schema k) absent

pub export_union : (k : ℕ) → schema_new false (union_field (suc k)) ≡ given (union_schema (suc k))
unfolding rows
export_union k =
    rw (count_fields_lem paired extended k, export_row k)
    (when_met zero_byte (lacks 0 [] and lacks 0 (ascii "+us:" ++ ids (suc k))) (union_schema (suc k))
    (refl, (refl, (refl, (refl, (refl, join_lacks 0 comma refl (map_list write_signed (up_from 0 (suc k))) (ids_lack 0 (suc k))))))))

union_from : (k : ℕ) → length (write_field_sheet (union_field k)) ≡ 66 + length (decimal k) + 37 * k
unfolding decimal
union_from k = omega (arith, grouped_length (union true None) paired extended k, exported_from k)

union_to : (k : ℕ) → length (write_schema_sheet (union_schema k)) ≡ 65 + length (decimal k) + 2 * length (ids k) + 168 * k
unfolding decimal
union_to k = omega (arith, schema_length (union_node k) extended_schema k, hex_length (ids k), exported_to k)

-- 1,769 of them: a field sheet of 65,523 bytes, whose schema sheet has 312,729; the room is no less
pub export_long : (length (write_field_sheet (union_field 1769)) ≡ 65523) × ((length (write_schema_sheet (union_schema 1769)) ≡ 312729) × (312729 ≤ export_room 65523))
unfolding decimal
export_long = (union_from 1769, (union_to 1769, omega arith))

-- ── plain form: `0 0 0 ~ ~ - 0 ~ 0`, 18 bytes, the shortest line of a field, stays; an id of four digits with its comma is 5 more

abbrev null_type : ArrowDataType
null_type = scalar (leaf Kind.Null 0)

pub plain_size : (k : ℕ) → fields_size (field_row unnamed null_type k) ≡ 18 * k
unfolding decimal
plain_size zero = refl
plain_size (suc k) = omega (arith, plain_size k)

pub plain_row : (k : ℕ) → plain_fields (field_row unnamed null_type k) ≡ field_row unnamed null_type k
plain_row zero = refl
plain_row (suc k) = rw (plain_row k)

-- in a union without ids, and with the ids that are counted
abbrev null_union : ℕ → Field
null_union k = record { info = unnamed; type = grouped (union true None) (field_row unnamed null_type k) }

abbrev plain_union : ℕ → Field
plain_union k = record { info = unnamed; type = grouped (union true (Some (up_from 0 k))) (field_row unnamed null_type k) }

pub plain_union_lem : (k : ℕ) → plain (null_union k) ≡ plain_union k
plain_union_lem k = rw (count_fields_lem unnamed null_type k, plain_row k)

null_from : (k : ℕ) → length (write_field_sheet (null_union k)) ≡ 66 + length (decimal k) + 18 * k
unfolding decimal
null_from k = omega (arith, grouped_length (union true None) unnamed null_type k, plain_size k)

null_to : (k : ℕ) → length (write_field_sheet (plain_union k)) ≡ 65 + length (decimal k) + length (write_list write_signed (Some (up_from 0 k))) + 18 * k
unfolding decimal
null_to k = omega (arith, grouped_length (union true (Some (up_from 0 k))) unnamed null_type k, plain_size k)

-- 3,636 of them: a field sheet of 65,518 bytes, whose plain form's has 82,586; the room is no less
pub plain_long : (length (write_field_sheet (null_union 3636)) ≡ 65518) × ((length (write_field_sheet (plain_union 3636)) ≡ 82586) × (82586 ≤ plain_room 65518))
unfolding decimal
plain_long = (null_from 3636, (null_to 3636, omega arith))

-- ── mappings and conversions

-- a buffer of n bytes
abbrev lent : ℕ → Bytes
lent n = replicate n 0

-- the call answers as many bytes as the room has
abbrev Exact : ℕ → Outcome → Type 0
Exact room answer = answer.size ≡ room

-- Float64
abbrev float64_sheet : Bytes
float64_sheet = ascii "kind p q text more name nullable pairs children\n14 0 0 ~ ~ - 0 ~ 0\n"

pub underlying_exact : Exact (mapping_room (length float64_sheet)) (underlying_physical_type_outcome float64_sheet (lent (length float64_sheet)))
unfolding leaf_rows decimal outcome
underlying_exact = refl

pub storage_exact : Exact (mapping_room (length float64_sheet)) (to_storage_outcome float64_sheet (lent (length float64_sheet)))
unfolding decimal outcome
storage_exact = refl

pub recursive_exact : Exact (mapping_room (length float64_sheet)) (to_storage_recursive_outcome float64_sheet (lent (length float64_sheet)))
unfolding decimal outcome
recursive_exact = refl

pub converted_exact : Exact converted_room (from_primitive_type_outcome Primitive.Int256 (lent 69))
unfolding decimal outcome
converted_exact = refl

-- a buffer that is a byte shorter is too short
pub converted_no_room : (from_primitive_type_outcome Primitive.Int256 (lent 68)).number ≡ no_room
unfolding decimal outcome
converted_no_room = refl
