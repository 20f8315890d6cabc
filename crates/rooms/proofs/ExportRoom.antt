-- How long an export can be: at most 178 bytes for each 37 of the field sheet. By induction on the field: 37 times the bytes of a type's schema lines, and
-- 370 more, are at most 178 times the bytes of its lines. The 370 are for the type's id in a union whose ids are None, 10 bytes. A schema line is bounded
-- by the line that it comes from and those of the extensions directly around it: its format by the first five columns, the rest by the others.
-- Assumes nothing.
use mathlib.Core.Path.{◌≡◌, refl, ap}
use mathlib.Core.Bool.{Bool, true, false}
use mathlib.Core.List.{List, [], ◌∷◌}
use Rattle.std.specs.Prelude.{Option, None, Some}
use Prim.Native.Nat.{ℕ, suc, ◌+◌, ◌*◌, ◌≤◌}
use native.Mathlib.Omega.{arith}
use lib.ListN.{length}
use Rattle.sheets.specs.Rule.{◌and◌, Meets}
use Rattle.sheets.specs.Refusal.{zero_byte}
use Rattle.sheets.specs.Bytes.{Bytes, lacks}
use Rattle.sheets.specs.Number.{decimal}
use Rattle.sheets.specs.Sheet.{sheet_limit}
use Rattle.sheets.specs.Flags.{ORDERED, NULLABLE}
use Rattle.sheets.specs.Schema.{Schema, schema, Schemas, end, ◌&◌, Dictionary, absent, present, count_schemas, count_dictionary, schema_lines, schema_heading}
use Rattle.sheets.specs.Field.{Info, Nesting, list, large_list, fixed_size_list, map, ArrowDataType, scalar, nested, grouped, dictionary, extension, Fields, nil, add, count_fields, type_rule, fields_rule}
use Rattle.sheets.specs.FieldSheet.{Shape, of_scalar, of_nesting, of_grouping, of_dictionary, of_extension, field_line, line_of, type_lines, fields_lines}
use Rattle.sheets.specs.Format.{nesting_format}
use Rattle.sheets.specs.Metadata.{Extension}
use Rattle.sheets.specs.Export.{flag, sorted_flag, schema_node, values_info, outermost, schema_new_of, schema_children}
use Rattle.sheets.specs.Outcome.{exported, export_outcome_in}
use Rattle.sheets.proofs.RoundTrip.{exported_node}
use Rattle.rooms.specs.Room.{export_room, Fits, HasRoom}
use Rattle.rooms.proofs.RoomLaws.{Gives, gives_given, gives_more, gives_then, gives_when, AtMost, answer_fits, answer_has_room}
use Rattle.rooms.proofs.Sizes.{parts_size, sheet_size, one_digit, decimal_least, decimal_order, shape_size, own_size, line_size, line_least, type_size, fields_size, add_size, fields_least, schema_size, children_size, dictionary_size, child_size, schema_size_lem, field_gives}
use Rattle.rooms.proofs.ExportRoomMetadata.{OwnBounds, field_bounds, values_bounds, inner_bounds}
use Rattle.rooms.proofs.ExportRoomFormat.{FormatBounded, short_format, name_short, scalar_format_lem, nesting_format_lem, grouping_format_lem}

-- ── a schema line

-- flags are one digit
flags_digit : (nullable : Bool) (x : ℕ) → x ≤ 4 → length (decimal (flag nullable NULLABLE + x)) ≤ 1
flags_digit true x h = one_digit (2 + x) (omega arith)
flags_digit false x h = one_digit (0 + x) (omega arith)

sorted_small : (n : Nesting) → sorted_flag n ≤ 4
sorted_small list = omega arith
sorted_small large_list = omega arith
sorted_small (fixed_size_list n) = omega arith
sorted_small (map true) = omega arith
sorted_small (map false) = omega arith

ordered_small : (ordered : Bool) → flag ordered ORDERED ≤ 4
ordered_small true = omega arith
ordered_small false = omega arith

dictionary_digit : (d : Dictionary) → length (decimal (count_dictionary d)) ≤ 1
dictionary_digit absent = one_digit 0 (omega arith)
dictionary_digit (present s) = one_digit 1 (omega arith)

-- ── the bounds

-- a schema's lines, and 10 bytes more for its id, by so many bytes of the field's lines
abbrev SchemaBounded : ℕ → Schema → Type 0
SchemaBounded bytes s = 37 * schema_size s + 370 ≤ 178 * bytes

-- the schemas of all fields, and their ids, by the fields' lines
abbrev ChildrenBounded : Fields → Schemas → Type 0
ChildrenBounded fs cs = (count_schemas cs ≡ count_fields fs) × (37 * children_size cs + 370 * count_fields fs ≤ 178 * fields_size fs)

module _ (big : Bool) where
  -- The step of the induction: a line s, o its own columns and n its children, and what becomes of it; `fields` of those below may need an id, and
  -- `earlier` are the bytes of the extensions' lines directly before it.
  module _ (s : Shape) (o : Option Info) (n : ℕ) (below : List Bytes) (fields earlier : ℕ) where
    node_bounded : (i : Info) (e : Option Extension) (f : Bytes) (x : ℕ) (cs : Schemas) (d : Dictionary)
        → x ≤ 4 → FormatBounded s fields f → OwnBounds big i o e earlier → length (decimal (count_schemas cs)) ≤ length (decimal n)
        → 37 * (children_size cs + dictionary_size d) + 370 * fields ≤ 178 * parts_size below
        → Gives (SchemaBounded (earlier + parts_size (field_line.write (line_of s o n) ∷ below))) (schema_node big i e f x cs d)
    node_bounded i e f x cs d small format own count rest =
        gives_when zero_byte (lacks 0 i.name and lacks 0 f) (schema (exported_node big i e f x) cs d)
        (λ _. omega (
          arith,
          schema_size_lem (exported_node big i e f x) cs d,
          flags_digit i.nullable x small,
          dictionary_digit d,
          line_size s o n below,
          own.here,
          decimal_least n,
        ))

  -- ── the tree

  mutual
    type_bounded : (t : ArrowDataType) (i : Info) (o : Option Info) (e : Option Extension) (earlier : ℕ)
        → Meets (type_rule t) → OwnBounds big i o e earlier → type_size t o ≤ sheet_limit → Gives (SchemaBounded (earlier + type_size t o)) (schema_new_of big t i e)
    type_bounded (scalar c) i o e earlier h own l =
        gives_then (scalar_format_lem c)
        (λ f format. node_bounded (of_scalar c) o 0 [] 0 earlier i e f 0 end absent (omega arith) format own (omega arith) (omega arith))
    type_bounded (nested n j t) i o e earlier h own l =
        let below = type_lines t (Some j) in
        gives_then (type_bounded t j (Some j) None 0 h.1.1 (field_bounds big j h.1.0) (omega (arith, line_least (of_nesting n) o 1 below)))
        (λ c child. node_bounded (of_nesting n) o 1 below 0 earlier i e (nesting_format n) (sorted_flag n) (c & end) absent
        (sorted_small n) (nesting_format_lem n) own (omega arith) (omega (arith, child, child_size c end)))
    type_bounded (grouped c fs) i o e earlier h own l =
        let count = count_fields fs in
        let below = fields_lines fs in
        let least = line_least (of_grouping c) o count below in
        gives_then (grouping_format_lem c count (omega (arith, least, fields_least fs)))
        (λ f format. gives_then (fields_bounded fs h.1 (omega (arith, least)))
        (λ cs children. node_bounded (of_grouping c) o count below count earlier i e f 0 cs absent
        (omega arith) format own (omega (arith, ap (λ (k : ℕ). length (decimal k)) children.0)) (omega (arith, children.1))))
    type_bounded (dictionary ix ordered t) i o None earlier h own l =
        let s = of_dictionary ix ordered in
        let below = type_lines t None in
        gives_then (name_short (ix + 2) 0)
        (λ f name. gives_then (type_bounded t values_info None None 0 h.1 (values_bounds big) (omega (arith, line_least s o 1 below)))
        (λ d values. node_bounded s o 1 below 0 earlier i None f (flag ordered ORDERED) end (present d)
        (ordered_small ordered) (short_format s f name) own (decimal_order 0 1 (omega arith)) (omega (arith, values))))
    type_bounded (dictionary ix ordered t) i o (Some e) earlier h own l =
        let s = of_dictionary ix ordered in
        gives_then (name_short (ix + 2) 0)
        (λ f name. node_bounded s o 1 (type_lines t None) 0 earlier i (Some e) f 0 end absent
        (omega arith) (short_format s f name) own (decimal_order 0 1 (omega arith)) (omega arith))
    type_bounded (extension n m t) i o e earlier h own l =
        let s = of_extension n m in
        let below = type_lines t None in
        let line = shape_size s + own_size o + 2 in
        gives_more (λ z inner. omega (arith, inner, line_size s o 1 below, decimal_least 1))
        (type_bounded t i None (Some (outermost e (n, m))) (earlier + line) h.1.1 (inner_bounds big own n m) (omega (arith, line_least s o 1 below)))

    fields_bounded : (fs : Fields) → Meets (fields_rule fs) → fields_size fs ≤ sheet_limit → Gives (ChildrenBounded fs) (schema_children big fs)
    fields_bounded nil h l = gives_given (refl, omega arith)
    fields_bounded (add i t fs) h l =
        let a = add_size i t fs in
        gives_then (type_bounded t i (Some i) None 0 h.1.0 (field_bounds big i h.0) (omega (arith, a)))
        (λ c first. gives_then (fields_bounded fs h.1.1 (omega (arith, a)))
        (λ cs rest. gives_given (ap suc rest.0, omega (arith, a, child_size c cs, first, rest.1))))

  -- ── the sheet and the call

  export_at_most : (b : Bytes) → AtMost (export_room (length b)) (exported big b)
  unfolding exported
  export_at_most b =
      gives_then (field_gives b)
      (λ f r. gives_then
      (type_bounded f.type f.info (Some f.info) None 0 r.rule.1 (field_bounds big f.info r.rule.0) (omega (arith, r.whole, r.short)))
      (λ s h. gives_given (omega (arith, h, r.whole, sheet_size schema_heading (schema_lines s)))))

  pub export_fits : (b out : Bytes) → Fits (export_room (length b)) (export_outcome_in big b out)
  export_fits b out = answer_fits (export_room (length b)) (exported big b) out (export_at_most b)

  pub export_has_room : (b out : Bytes) → HasRoom (export_room (length b)) out (export_outcome_in big b out)
  export_has_room b out = answer_has_room (export_room (length b)) (exported big b) out (export_at_most b)
