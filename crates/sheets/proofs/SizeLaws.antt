-- Within a sheet of 65,535 bytes nothing is longer than a 32-bit length counts. Assumes nothing.
use mathlib.Core.Path.{◌≡◌, refl}
use mathlib.Core.Bool.{Bool, true, false}
use mathlib.Core.List.{List, [], ◌∷◌, ◌++◌}
use Rattle.std.specs.Prelude.{Option, None, Some}
use Prim.Native.Nat.{ℕ, zero, suc, ◌+◌, ◌*◌, ◌^◌, ◌≤◌}
use native.Mathlib.Omega.{arith}
use lib.Dec.{leb}
use lib.ListN.{length, length-append}
use borrow.Author.Tests.{lt-ltb, le-leb, leb-true}
use Rattle.sheets.specs.Rule.{Rule, is, each, Meets}
use Rattle.sheets.specs.Bytes.{Bytes, join}
use Rattle.sheets.specs.Number.{decimal, write_signed}
use Rattle.sheets.specs.Text.{hex, write_text}
use Rattle.sheets.specs.Sheet.{ended, write_sheet}
use Rattle.sheets.specs.Schema.{Node, Schema, schema, Schemas, end, ◌&◌, Dictionary, absent, present, count_schemas, count_dictionary, schema_line, line_of, schema_lines, children_lines, dictionary_lines, schema_heading, write_schema_sheet}
use Rattle.sheets.specs.Field.{Info, ArrowDataType, scalar, nested, grouped, dictionary, extension, Fields, nil, add, Field, count_fields}
use Rattle.sheets.specs.FieldSheet.{type_lines, fields_lines, field_heading, write_field_sheet}
use Rattle.sheets.proofs.MetadataLaws.{short_block}
use Rattle.sheets.proofs.RoundTrip.{schema_short, children_short, dictionary_short}
use Rattle.sheets.proofs.PlainLaws.{type_few, fields_few}

abbrev limit : ℕ
limit = 65535

abbrev within : Bytes → Rule
within b = is (leb (length b) limit)

pub hex_length : (b : Bytes) → length (hex b) ≡ 2 * length b
hex_length [] = refl
hex_length (x ∷ b) = omega (arith, hex_length b)

text_length : (b : Bytes) → length b ≤ length (write_text (Some b))
text_length [] = omega arith
text_length (x ∷ b) = omega (arith, hex_length b)

join_within : (s : ℕ) (ps : List Bytes) → length (join s ps) ≤ limit → Meets (each within ps)
join_within s [] h = refl
join_within s (p ∷ []) h = (le-leb (length p) limit h, refl)
join_within s (p ∷ q ∷ ps) h =
    let n : length (p ++ (s ∷ join s (q ∷ ps))) ≡ length p + suc (length (join s (q ∷ ps))) = length-append p (s ∷ join s (q ∷ ps)) in
    (le-leb (length p) limit (omega arith), join_within s (q ∷ ps) (omega arith))

ended_within : (ls : List Bytes) → length (ended ls) ≤ limit → Meets (each within ls) × (length ls ≤ length (ended ls))
ended_within [] h = (refl, omega arith)
ended_within (l ∷ ls) h =
    let n : length (l ++ (10 ∷ ended ls)) ≡ length l + suc (length (ended ls)) = length-append l (10 ∷ ended ls) in
    let r = ended_within ls (omega arith) in
    ((le-leb (length l) limit (omega arith), r.0), omega (arith, r.1))

sheet_within : (heading : Bytes) (ls : List Bytes) → leb (length (write_sheet heading ls)) 65535 ≡ true → Meets (each within ls) × (length ls ≤ limit)
sheet_within heading ls h =
    let n : length (write_sheet heading ls) ≡ length heading + suc (length (ended ls)) = length-append heading (10 ∷ ended ls) in
    let k : length (write_sheet heading ls) ≤ 65535 = leb-true (length (write_sheet heading ls)) 65535 h in
    let r = ended_within ls (omega arith) in
    (r.0, omega (arith, r.1))

each_left : (ps qs : List Bytes) → Meets (each within (ps ++ qs)) → Meets (each within ps)
each_left [] qs h = refl
each_left (p ∷ ps) qs h = (h.0, each_left ps qs h.1)

each_right : (ps qs : List Bytes) → Meets (each within (ps ++ qs)) → Meets (each within qs)
each_right [] qs h = h
each_right (p ∷ ps) qs h = each_right ps qs h.1

-- ── schemas

block_short : (m : Option Bytes) → Meets (within (write_text m)) → Meets (short_block m)
block_short None h = refl
block_short (Some b) h = lt-ltb (length b) (2 ^ 31) (omega (arith, text_length b, leb-true (length (write_text (Some b))) limit h))

node_short : (n : Node) (c d : ℕ) → Meets (within (schema_line.write (line_of n c d))) → Meets (short_block n.metadata)
node_short n c d h =
    let t = join_within 32 (write_text n.format ∷ write_text n.name ∷ write_signed n.flags ∷ write_text n.metadata ∷ decimal c ∷ decimal d ∷ []) (leb-true (length (schema_line.write (line_of n c d))) limit h) in
    block_short n.metadata t.1.1.1.0

lines_some : (s : Schema) → 1 ≤ length (schema_lines s)
lines_some (schema n cs d) = omega arith

count_lines : (cs : Schemas) → count_schemas cs ≤ length (children_lines cs)
count_lines end = omega arith
count_lines (s & ss) = rw (length-append (schema_lines s) (children_lines ss)) (omega (arith, lines_some s, count_lines ss))

mutual
  schema_short_lem : (s : Schema) → Meets (each within (schema_lines s)) → length (schema_lines s) ≤ limit → Meets (schema_short s)
  schema_short_lem (schema n cs d) h k =
      let a : length (children_lines cs ++ dictionary_lines d) ≡ length (children_lines cs) + length (dictionary_lines d) = length-append (children_lines cs) (dictionary_lines d) in (
        node_short n (count_schemas cs) (count_dictionary d) h.0,
        (
          le-leb (count_schemas cs) (2 ^ 31) (omega (arith, count_lines cs)),
          (
            children_short_lem cs (each_left (children_lines cs) (dictionary_lines d) h.1) (omega arith),
            dictionary_short_lem d (each_right (children_lines cs) (dictionary_lines d) h.1) (omega arith),
          ),
        ),
      )

  children_short_lem : (cs : Schemas) → Meets (each within (children_lines cs)) → length (children_lines cs) ≤ limit → Meets (children_short cs)
  children_short_lem end h k = refl
  children_short_lem (s & ss) h k =
      let a : length (schema_lines s ++ children_lines ss) ≡ length (schema_lines s) + length (children_lines ss) = length-append (schema_lines s) (children_lines ss) in
      (schema_short_lem s (each_left (schema_lines s) (children_lines ss) h) (omega arith), children_short_lem ss (each_right (schema_lines s) (children_lines ss) h) (omega arith))

  dictionary_short_lem : (d : Dictionary) → Meets (each within (dictionary_lines d)) → length (dictionary_lines d) ≤ limit → Meets (dictionary_short d)
  dictionary_short_lem absent h k = refl
  dictionary_short_lem (present s) h k = schema_short_lem s h k

pub sheet_short : (s : Schema) → leb (length (write_schema_sheet s)) 65535 ≡ true → Meets (schema_short s)
sheet_short s h = let r = sheet_within schema_heading (schema_lines s) h in schema_short_lem s r.0 r.1

-- ── fields

type_some : (t : ArrowDataType) (i : Option Info) → 1 ≤ length (type_lines t i)
type_some (scalar s) i = omega arith
type_some (nested n j t) i = omega arith
type_some (grouped g fs) i = omega arith
type_some (dictionary ix ordered t) i = omega arith
type_some (extension n m t) i = omega arith

count_fields_lem : (fs : Fields) → count_fields fs ≤ length (fields_lines fs)
count_fields_lem nil = omega arith
count_fields_lem (add i t fs) = rw (length-append (type_lines t (Some i)) (fields_lines fs)) (omega (arith, type_some t (Some i), count_fields_lem fs))

mutual
  type_few_lem : (t : ArrowDataType) (b : Bool) (i : Option Info) → length (type_lines t i) ≤ limit → Meets (type_few t b)
  type_few_lem (scalar s) b i h = refl
  type_few_lem (nested n j t) b i h = type_few_lem t false (Some j) (omega arith)
  type_few_lem (grouped g fs) b i h = (le-leb (count_fields fs) (2 ^ 31) (omega (arith, count_fields_lem fs)), fields_few_lem fs (omega arith))
  type_few_lem (dictionary ix ordered t) true i h = refl
  type_few_lem (dictionary ix ordered t) false i h = type_few_lem t false None (omega arith)
  type_few_lem (extension n m t) b i h = type_few_lem t true None (omega arith)

  fields_few_lem : (fs : Fields) → length (fields_lines fs) ≤ limit → Meets (fields_few fs)
  fields_few_lem nil h = refl
  fields_few_lem (add i t fs) h =
      let a : length (type_lines t (Some i) ++ fields_lines fs) ≡ length (type_lines t (Some i)) + length (fields_lines fs) = length-append (type_lines t (Some i)) (fields_lines fs) in
      (type_few_lem t false (Some i) (omega arith), fields_few_lem fs (omega arith))

pub field_few : (f : Field) → leb (length (write_field_sheet f)) 65535 ≡ true → Meets (type_few f.type false)
field_few f h =
    let r = sheet_within field_heading (type_lines f.type (Some f.info)) h in
    type_few_lem f.type false (Some f.info) r.1
