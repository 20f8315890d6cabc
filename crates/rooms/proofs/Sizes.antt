-- How many bytes numbers, texts, lists, lines and sheets have. Each part counts with the one byte after it: a column with its space, an id or a pair with
-- its comma, a line with byte 10; so sizes add up without a last part that is different. A number is below 10 to the count of its digits; none of a field
-- line's nine columns is empty, so it has 18 bytes or more; a type's lines differ from its bare lines only in the columns that the first line shows of its
-- field. By induction over digits, parts and types. Assumes nothing.
use mathlib.Core.Path.{◌≡◌, refl, ap}
use mathlib.Core.Bool.{Bool, true, false}
use mathlib.Core.List.{List, [], ◌∷◌, ◌++◌}
use mathlib.Core.List.{map as map_list}
use Rattle.std.specs.Prelude.{Option, None, Some}
use Prim.Native.Nat.{ℕ, zero, suc, ◌+◌, ◌*◌, ◌-◌, ◌^◌, ◌≤◌, ◌<◌}
use native.Mathlib.Omega.{arith}
use native.Mathlib.Nat.{mul-le-mul_right, pow-suc}
use lib.Dec.{leb}
use lib.IntN.{ℤ, pos, negsuc}
use lib.ListN.{length, length-append}
use borrow.Author.Tests.{leb-true}
use Rattle.sheets.specs.Rule.{Meets}
use Rattle.sheets.specs.Bytes.{Bytes, line_end, space, comma, equals, all, join}
use Rattle.sheets.specs.Number.{is_digit, decimal, value_from, lean, write_signed}
use Rattle.sheets.specs.Answer.{given}
use Rattle.sheets.specs.Kind
use Rattle.sheets.specs.Text.{hex, write_text}
use Rattle.sheets.specs.Schema.{Node, Schema, schema, Schemas, ◌&◌, Dictionary, count_schemas, count_dictionary, schema_lines, children_lines, dictionary_lines, schema_heading, read_schema_sheet}
use Rattle.sheets.specs.Sheet.{sheet_limit, ended, write_sheet}
use Rattle.sheets.specs.Field.{Width, bits128, bits32, bits64, bits256, Pair, Info, Scalar, leaf, timestamp, fixed_size_binary, decimal_type, Nesting, list, large_list, fixed_size_list, map, Grouping, struct, union, ArrowDataType, scalar, nested, grouped, dictionary, extension, Fields, nil, add, Field, count_fields, field_rule, up_from}
use Rattle.sheets.specs.FieldSheet.{Shape, of_scalar, of_nesting, of_grouping, of_dictionary, of_extension, columns, info_columns, to_nat, decimal_kind, pair_text, write_list, field_line, line_of, type_lines, fields_lines, field_heading, read_field_sheet, write_field_sheet}
use Rattle.sheets.specs.Format.{or_empty}
use Rattle.sheets.specs.Metadata.{write_pairs}
use Rattle.sheets.proofs.MetadataLaws.{pairs_length_lem}
use Rattle.sheets.proofs.Tests.{and_right, never}
use Rattle.sheets.proofs.NumberLaws.{decimal_lean, decimal_digits, value_decimal}
use Rattle.sheets.proofs.SizeLaws.{hex_length}
use Rattle.sheets.proofs.FieldSheetLaws.{field_read, field_sheet_read, field_sheet_short}
use Rattle.sheets.proofs.SchemaLaws.{schema_sheet_read}
use Rattle.decimal.proofs.WriteLaws.{decimal_length}
use Rattle.decimal.proofs.WriteLaws.{two_digits as both-digits}
use Rattle.rooms.proofs.RoomLaws.{Gives}

-- ── parts and sheets

-- the bytes of parts, each with one byte after it
abbrev pub parts_size : List Bytes → ℕ
parts_size [] = 0
parts_size (p ∷ ps) = suc (length p) + parts_size ps

append_size : (ps qs : List Bytes) → parts_size (ps ++ qs) ≡ parts_size ps + parts_size qs
append_size [] qs = omega arith
append_size (p ∷ ps) qs = omega (arith, append_size ps qs)

-- parts with a separator between each two, and one byte after the last
pub join_size : (s : ℕ) (p : Bytes) (ps : List Bytes) → suc (length (join s (p ∷ ps))) ≡ parts_size (p ∷ ps)
join_size s p [] = omega arith
join_size s p (q ∷ ps) = omega (arith, length-append p (s ∷ join s (q ∷ ps)), join_size s q ps)

ended_size : (ls : List Bytes) → length (ended ls) ≡ parts_size ls
ended_size [] = refl
ended_size (l ∷ ls) = omega (arith, length-append l (line_end ∷ ended ls), ended_size ls)

-- a sheet: its heading and its lines
pub sheet_size : (heading : Bytes) (ls : List Bytes) → length (write_sheet heading ls) ≡ suc (length heading) + parts_size ls
sheet_size heading ls = omega (arith, length-append heading (line_end ∷ ended ls), ended_size ls)

-- ── numbers

pub one_digit : (n : ℕ) → n < 10 → length (decimal n) ≤ 1
one_digit n h = decimal_length 1 n (omega arith) (omega arith)

pub two_digits : (n : ℕ) → n < 100 → length (decimal n) ≤ 2
two_digits n h = decimal_length 2 n (omega arith) (omega arith)

pub exactly_two_digits : (n : ℕ) → 10 ≤ n → n < 100 → length (decimal n) ≡ 2
exactly_two_digits n l h = ap (λ (b : Bytes). length b) (both-digits n l h)

-- the kind of a decimal
pub width_digits : (w : Width) → length (decimal (decimal_kind w)) ≡ 2
unfolding decimal
width_digits bits128 = refl
width_digits bits32 = refl
width_digits bits64 = refl
width_digits bits256 = refl

pub decimal_least : (n : ℕ) → 1 ≤ length (decimal n)
decimal_least n = go (decimal n) (decimal_lean n)
  where
    go : (b : Bytes) → lean b ≡ true → 1 ≤ length b
    go [] h = never h
    go (b ∷ bs) h = omega arith

pub signed_least : (z : ℤ) → 1 ≤ length (write_signed z)
signed_least (pos n) = decimal_least n
signed_least (negsuc n) = omega arith

pub flag_size : (b : Bool) → length (decimal (to_nat b)) ≡ 1
unfolding decimal
flag_size true = refl
flag_size false = refl

-- digits after others whose value is v
value_below : (v : ℕ) (t : Bytes) → Meets (all is_digit t) → value_from v t < suc v * 10 ^ length t
value_below v [] h = omega arith
value_below v (b ∷ bs) h =
    rw (pow-suc 10 (length bs)) (omega (arith, value_below (v * 10 + (b - 48)) bs h.1, step v (b - 48) (10 ^ length bs) digit))
  where
    digit : b - 48 ≤ 9
    digit = omega (arith, leb-true b 57 (and_right (leb 48 b) (leb b 57) h.0))

    step : (v d p : ℕ) → d ≤ 9 → suc (v * 10 + d) * p ≤ suc v * (p * 10)
    step v d p l = omega (arith, mul-le-mul_right p l)

-- what digits tell is written with no more digits
pub value_size_lem : (t : Bytes) → 1 ≤ length t → Meets (all is_digit t) → length (decimal (value_from 0 t)) ≤ length t
value_size_lem t s h = decimal_length (length t) (value_from 0 t) s (omega (arith, value_below 0 t h))

decimal_below : (n : ℕ) → n < 10 ^ length (decimal n)
decimal_below n = omega (arith, value_below 0 (decimal n) (decimal_digits n), value_decimal n)

-- a smaller number is written no longer, and one that is greater by 2 with at most one digit more
pub decimal_order : (m n : ℕ) → m ≤ n → length (decimal m) ≤ length (decimal n)
decimal_order m n h = decimal_length (length (decimal n)) m (decimal_least n) (omega (arith, decimal_below n))

decimal_next : (n : ℕ) → length (decimal (n + 2)) ≤ suc (length (decimal n))
decimal_next n =
    decimal_length (suc (length (decimal n))) (n + 2) (omega arith) (rw (pow-suc 10 (length (decimal n))) (omega (arith, decimal_below n)))

-- ── texts: two digits for each byte, and one byte for an empty text or none

pub text_least : (t : Option Bytes) → 1 ≤ length (write_text t)
text_least None = omega arith
text_least (Some []) = omega arith
text_least (Some (b ∷ bs)) = omega arith

pub text_size_lem : (t : Option Bytes) → 2 * length (or_empty t) ≤ length (write_text t)
text_size_lem None = omega arith
text_size_lem (Some []) = omega arith
text_size_lem (Some (b ∷ bs)) = omega (arith, hex_length bs)

pub text_most : (t : Option Bytes) → length (write_text t) ≤ suc (2 * length (or_empty t))
text_most None = omega arith
text_most (Some []) = omega arith
text_most (Some (b ∷ bs)) = omega (arith, hex_length bs)

-- ── lists and pairs

list_least : {A : Type 0} (write : A → Bytes) → ((a : A) → 1 ≤ length (write a)) → (l : Option (List A)) → 1 ≤ length (write_list write l)
list_least write h None = omega arith
list_least write h (Some []) = omega arith
list_least write h (Some (a ∷ l)) = omega (arith, join_size comma (write a) (map_list write l), h a)

pub list_most : {A : Type 0} (write : A → Bytes) (l : List A) → length (write_list write (Some l)) ≤ suc (parts_size (map_list write l))
list_most write [] = omega arith
list_most write (a ∷ l) = omega (arith, join_size comma (write a) (map_list write l))

pub pair_size : (p : Pair) → length (pair_text p) ≡ 1 + 2 * length p.0 + 2 * length p.1
pair_size p = omega (arith, length-append (hex p.0) (equals ∷ hex p.1), hex_length p.0, hex_length p.1)

-- pairs in a block of metadata: two lengths of 4 bytes, the key, the value
abbrev pub pairs_size : List Pair → ℕ
pairs_size [] = 0
pairs_size (p ∷ ps) = 8 + length p.0 + length p.1 + pairs_size ps

module _ (big : Bool) where
  pub pairs_size_lem : (ps : List Pair) → length (write_pairs big ps) ≡ pairs_size ps
  pairs_size_lem [] = refl
  pairs_size_lem (p ∷ ps) =
      omega (arith, pairs_length_lem big p ps, pairs_size_lem ps)

-- ── the columns of a field line

-- the columns kind p q text more
abbrev pub shape_size : Shape → ℕ
shape_size s = parts_size (decimal (columns s).kind ∷ decimal (columns s).p ∷ decimal (columns s).q ∷ (columns s).text ∷ (columns s).more ∷ [])

-- the columns name nullable pairs
abbrev pub own_size : Option Info → ℕ
own_size i = parts_size ((info_columns i).0 ∷ (info_columns i).1.0 ∷ (info_columns i).1.1 ∷ [])

texts_least : (s : Shape) → (1 ≤ length (columns s).text) × (1 ≤ length (columns s).more)
texts_least (of_scalar (leaf k u)) = omega arith
texts_least (of_scalar (timestamp u zone)) = omega (arith, text_least zone)
texts_least (of_scalar (fixed_size_binary n)) = omega arith
texts_least (of_scalar (decimal_type w p s)) = omega arith
texts_least (of_nesting list) = omega arith
texts_least (of_nesting large_list) = omega arith
texts_least (of_nesting (fixed_size_list n)) = omega arith
texts_least (of_nesting (map sorted)) = omega arith
texts_least (of_grouping struct) = omega arith
texts_least (of_grouping (union sparse ids)) = omega (arith, list_least write_signed signed_least ids)
texts_least (of_dictionary ix ordered) = omega arith
texts_least (of_extension n m) = omega (arith, text_least (Some n), text_least m)

pub shape_least : (s : Shape) → 10 ≤ shape_size s
shape_least s = omega (arith, decimal_least (columns s).kind, decimal_least (columns s).p, decimal_least (columns s).q, texts_least s)

own_least : (i : Option Info) → 6 ≤ own_size i
own_least None = omega arith
own_least (Some i) =
    omega (arith, text_least (Some i.name), flag_size i.nullable, list_least pair_text (λ p. omega (arith, pair_size p)) i.pairs)

-- ── the lines of a field

-- a line and those after it
pub line_size : (s : Shape) (i : Option Info) (n : ℕ) (ls : List Bytes)
    → parts_size (field_line.write (line_of s i n) ∷ ls) ≡ shape_size s + own_size i + suc (length (decimal n)) + parts_size ls
line_size s i n ls =
    let c = columns s in
    let o = info_columns i in
    omega (
      arith,
      join_size space (decimal c.kind) (decimal c.p ∷ decimal c.q ∷ c.text ∷ c.more ∷ o.0 ∷ o.1.0 ∷ o.1.1 ∷ decimal n ∷ []),
    )

-- nine columns
pub line_least : (s : Shape) (i : Option Info) (n : ℕ) (ls : List Bytes) → 18 + parts_size ls ≤ parts_size (field_line.write (line_of s i n) ∷ ls)
line_least s i n ls = omega (arith, line_size s i n ls, shape_least s, own_least i, decimal_least n)

-- the lines of a type with what its first line shows of its field, its bare lines, and the lines of fields
abbrev pub type_size : ArrowDataType → Option Info → ℕ
type_size t i = parts_size (type_lines t i)

abbrev pub bare_size : ArrowDataType → ℕ
bare_size t = type_size t None

abbrev pub fields_size : Fields → ℕ
fields_size fs = parts_size (fields_lines fs)

pub add_size : (i : Info) (t : ArrowDataType) (fs : Fields) → fields_size (add i t fs) ≡ type_size t (Some i) + fields_size fs
add_size i t fs = append_size (type_lines t (Some i)) (fields_lines fs)

type_least : (t : ArrowDataType) (i : Option Info) → 18 ≤ type_size t i
type_least (scalar s) i = omega (arith, line_least (of_scalar s) i 0 [])
type_least (nested n j t) i = omega (arith, line_least (of_nesting n) i 1 (type_lines t (Some j)))
type_least (grouped g fs) i = omega (arith, line_least (of_grouping g) i (count_fields fs) (fields_lines fs))
type_least (dictionary ix ordered t) i = omega (arith, line_least (of_dictionary ix ordered) i 1 (type_lines t None))
type_least (extension n m t) i = omega (arith, line_least (of_extension n m) i 1 (type_lines t None))

pub fields_least : (fs : Fields) → 18 * count_fields fs ≤ fields_size fs
fields_least nil = omega arith
fields_least (add i t fs) = omega (arith, add_size i t fs, type_least t (Some i), fields_least fs)

-- only the first line shows anything of the field, and a bare line shows it in six bytes
pub type_size_lem : (t : ArrowDataType) (i : Option Info) → type_size t i + 6 ≡ bare_size t + own_size i
type_size_lem (scalar s) i = omega (arith, line_size (of_scalar s) i 0 [], line_size (of_scalar s) None 0 [])
type_size_lem (nested n j t) i = let below = type_lines t (Some j) in omega (arith, line_size (of_nesting n) i 1 below, line_size (of_nesting n) None 1 below)
type_size_lem (grouped g fs) i =
    let count = count_fields fs in
    omega (arith, line_size (of_grouping g) i count (fields_lines fs), line_size (of_grouping g) None count (fields_lines fs))
type_size_lem (dictionary ix ordered t) i =
    let s = of_dictionary ix ordered in
    omega (arith, line_size s i 1 (type_lines t None), line_size s None 1 (type_lines t None))
type_size_lem (extension n m t) i =
    let s = of_extension n m in
    omega (arith, line_size s i 1 (type_lines t None), line_size s None 1 (type_lines t None))

pub bare_least : (t : ArrowDataType) (i : Option Info) → bare_size t ≤ type_size t i
bare_least t i = omega (arith, type_size_lem t i, own_least i)

-- the bare lines: the first, and those below it
pub scalar_size : (s : Scalar) → bare_size (scalar s) ≡ shape_size (of_scalar s) + 8
scalar_size s = omega (arith, line_size (of_scalar s) None 0 [], flag_size false)

pub nested_size : (n : Nesting) (j : Info) (t : ArrowDataType) → bare_size (nested n j t) ≡ shape_size (of_nesting n) + 8 + type_size t (Some j)
nested_size n j t = omega (arith, line_size (of_nesting n) None 1 (type_lines t (Some j)), flag_size true)

pub grouped_size : (g : Grouping) (fs : Fields)
    → bare_size (grouped g fs) ≡ shape_size (of_grouping g) + 6 + suc (length (decimal (count_fields fs))) + fields_size fs
grouped_size g fs = omega (arith, line_size (of_grouping g) None (count_fields fs) (fields_lines fs))

pub dictionary_size_lem : (ix : ℕ) (ordered : Bool) (t : ArrowDataType) → bare_size (dictionary ix ordered t) ≡ shape_size (of_dictionary ix ordered) + 8 + bare_size t
dictionary_size_lem ix ordered t = omega (arith, line_size (of_dictionary ix ordered) None 1 (type_lines t None), flag_size true)

pub extension_size : (n : Bytes) (m : Option Bytes) (t : ArrowDataType) → bare_size (extension n m t) ≡ shape_size (of_extension n m) + 8 + bare_size t
extension_size n m t = omega (arith, line_size (of_extension n m) None 1 (type_lines t None), flag_size true)

-- the line of a dictionary's index type: the index moves to the kind's column, where it has at most one digit more and two were
pub index_size : (ix : ℕ) (ordered : Bool) → shape_size (of_scalar (leaf (ix + 2) 0)) ≤ shape_size (of_dictionary ix ordered)
index_size ix ordered =
    omega (arith, decimal_next ix, flag_size false, flag_size ordered, exactly_two_digits Kind.Dictionary (omega arith) (omega arith))

-- ── ids 0, 1, .., one per field, where there are at most 10,000: four digits and a comma each

ids_size : (n count : ℕ) → n + count ≤ 10000 → parts_size (map_list write_signed (up_from n count)) ≤ 5 * count
ids_size n zero h = omega arith
ids_size n (suc count) h = omega (arith, decimal_length 4 n (omega arith) (omega arith), ids_size (suc n) count (omega arith))

pub counted_size : (count : ℕ) → count ≤ 10000 → length (write_list write_signed (Some (up_from 0 count))) ≤ 5 * count + 1
counted_size count h = omega (arith, list_most write_signed (up_from 0 count), ids_size 0 count (omega arith))

-- ── the lines of a schema

abbrev pub schema_size : Schema → ℕ
schema_size s = parts_size (schema_lines s)

abbrev pub children_size : Schemas → ℕ
children_size cs = parts_size (children_lines cs)

abbrev pub dictionary_size : Dictionary → ℕ
dictionary_size d = parts_size (dictionary_lines d)

pub child_size : (s : Schema) (ss : Schemas) → children_size (s & ss) ≡ schema_size s + children_size ss
child_size s ss = append_size (schema_lines s) (children_lines ss)

-- the columns format name flags metadata
abbrev pub node_size : Node → ℕ
node_size n = parts_size (write_text n.format ∷ write_text n.name ∷ write_signed n.flags ∷ write_text n.metadata ∷ [])

pub schema_size_lem : (n : Node) (cs : Schemas) (d : Dictionary)
    → schema_size (schema n cs d)
    ≡ node_size n + suc (length (decimal (count_schemas cs))) + suc (length (decimal (count_dictionary d))) + children_size cs + dictionary_size d
schema_size_lem n cs d =
    let c = decimal (count_schemas cs) in
    let v = decimal (count_dictionary d) in
    omega (
      arith,
      join_size space (write_text n.format) (write_text n.name ∷ write_signed n.flags ∷ write_text n.metadata ∷ c ∷ v ∷ []),
      append_size (children_lines cs) (dictionary_lines d),
    )

-- ── sheets that are read

pub schema_gives : (b : Bytes) → Gives (λ s. length b ≡ suc (length schema_heading) + schema_size s) (read_schema_sheet b)
schema_gives b = record { gave = λ s e. omega (arith, ap (λ (x : Bytes). length x) (schema_sheet_read b s e), sheet_size schema_heading (schema_lines s)) }

-- a field sheet: its length, which is bounded, and what holds of its field

pub record FieldRead (b : Bytes) (f : Field) : Type 0 where
  pub whole : length b ≡ suc (length field_heading) + type_size f.type (Some f.info)
  pub short : length b ≤ sheet_limit
  pub rule : Meets (field_rule f)

pub field_gives : (b : Bytes) → Gives (FieldRead b) (read_field_sheet b)
field_gives b = record { gave = read }
  where
    same : (f : Field) → read_field_sheet b ≡ given f → length b ≡ length (write_field_sheet f)
    same f e = ap (λ (x : Bytes). length x) (field_sheet_read b f e)

    read : (f : Field) → read_field_sheet b ≡ given f → FieldRead b f
    read f e = record {
      whole = omega (arith, same f e, sheet_size field_heading (type_lines f.type (Some f.info)));
      short = omega (arith, same f e, leb-true (length (write_field_sheet f)) sheet_limit (field_sheet_short b f e));
      rule = (field_read b f e).0;
    }
