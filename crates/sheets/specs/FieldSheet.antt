-- Document 01, 'Field sheet': the lines of a field, and reading them: "`kind p q text more name nullable pairs children`". Assumes nothing.
use Rattle.std.specs.Prelude.{Bool, true, false, ◌&&◌, cond, List, [], ◌∷◌, ◌++◌, map as map_list, ℕ, zero, suc, ◌+◌, eqb, leb, Option, None, Some}
use Rattle.sheets.specs.Refusal.{bad_lines, too_deep}
use Rattle.sheets.specs.Bytes.{Bytes, comma, equals, ascii, split, join, same}
use Rattle.sheets.specs.Rule.{is}
use Rattle.sheets.specs.Answer.{Answer, refused, given, ◌>>=◌, when, read_each}
use Rattle.sheets.specs.Number.{decimal, read_number, read_signed, write_signed}
use Rattle.sheets.specs.Text.{hex, unhex, write_text, read_text}
use Rattle.sheets.specs.Codec.{Codec, number, raw, done, ◌▸◌, line}
use Rattle.sheets.specs.Sheet.{level_limit, read_sheet, write_sheet, single}
use Rattle.sheets.specs.Kind
use Rattle.sheets.specs.Field.{Pair, Info, TimeUnit, unit_place, second, millisecond, microsecond, nanosecond, Width, bits128, bits32, bits64, bits256, Scalar, leaf, timestamp, fixed_size_binary, decimal_type, Nesting, list, large_list, fixed_size_list, map, Grouping, struct, union, ArrowDataType, scalar, nested, grouped, dictionary, extension, Fields, nil, add, Field, count_fields, is_leaf, field_rule, field_levels}

-- ── the columns kind p q text more: what a line says of its type, and how it stands to the lines below

pub record Columns : Type 0 where
  pub kind : ℕ
  pub p : ℕ
  pub q : ℕ
  pub text : Bytes
  pub more : Bytes

-- what a line says of its type, without the lines below
pub data Shape : Type 0 where
  of_scalar : Scalar → Shape
  of_nesting : Nesting → Shape
  of_grouping : Grouping → Shape
  of_dictionary : ℕ → Bool → Shape
  of_extension : Bytes → Option Bytes → Shape

-- "unused texts `~`"
abbrev pub no_text : Bytes
no_text = write_text None

-- a type that needs no text
abbrev numbers : ℕ → ℕ → ℕ → Columns
numbers k p q = record { kind = k; p = p; q = q; text = no_text; more = no_text }

-- "sorted", "ordered", "union mode (0 dense, 1 sparse)", `nullable`: 0 or 1
abbrev pub to_nat : Bool → ℕ
to_nat true = 1
to_nat false = 0

abbrev pub decimal_kind : Width → ℕ
decimal_kind bits128 = Kind.Decimal
decimal_kind bits32 = Kind.Decimal32
decimal_kind bits64 = Kind.Decimal64
decimal_kind bits256 = Kind.Decimal256

-- a list in a column: `~` none, `-` empty, else its elements' texts joined by commas
abbrev pub write_list : {A : Type 0} → (A → Bytes) → Option (List A) → Bytes
write_list write None = no_text
write_list write (Some []) = ascii "-"
write_list write (Some (a ∷ l)) = join comma (write a ∷ map_list write l)

-- "`p`, `q`: size; precision and scale; unit; map sorted in `p`; dictionary index type and ordered; union mode. `text` is the timezone, the
-- extension's name, or the union's ids. `more` is the extension's metadata. Unused `p`, `q` are 0, unused texts `~`"
abbrev pub columns : Shape → Columns
columns (of_scalar (leaf k u)) = numbers k u 0
columns (of_scalar (timestamp u zone)) = record { kind = Kind.Timestamp; p = unit_place u; q = 0; text = write_text zone; more = no_text }
columns (of_scalar (fixed_size_binary n)) = numbers Kind.FixedSizeBinary n 0
columns (of_scalar (decimal_type w p s)) = numbers (decimal_kind w) p s
columns (of_nesting list) = numbers Kind.List 0 0
columns (of_nesting (fixed_size_list n)) = numbers Kind.FixedSizeList n 0
columns (of_nesting large_list) = numbers Kind.LargeList 0 0
columns (of_grouping struct) = numbers Kind.Struct 0 0
columns (of_nesting (map sorted)) = numbers Kind.Map (to_nat sorted) 0
columns (of_dictionary ix ordered) = numbers Kind.Dictionary ix (to_nat ordered)
columns (of_extension n m) = record { kind = Kind.Extension; p = 0; q = 0; text = write_text (Some n); more = write_text m }
columns (of_grouping (union sparse ids)) = record { kind = Kind.Union; p = to_nat sparse; q = 0; text = write_list write_signed ids; more = no_text }

-- ── the columns name nullable pairs: what a line says of its field

-- "`key=value` in hexadecimal", "either side may be empty"
abbrev pub pair_text : Pair → Bytes
pair_text p = hex p.0 ++ (equals ∷ hex p.1)

-- the columns name nullable pairs
abbrev pub Own : Type 0
Own = Bytes × (Bytes × Bytes)

-- "bare lines: `name`, `nullable` and `pairs` all `~`"; all others have a name and `nullable` 0 or 1
abbrev pub info_columns : Option Info → Own
info_columns None = (no_text, (no_text, no_text))
info_columns (Some i) = (write_text (Some i.name), (decimal (to_nat i.nullable), write_list pair_text i.pairs))

-- "`kind p q text more name nullable pairs children`"
abbrev pub Line : Type 0
Line = ℕ × (ℕ × (ℕ × (Bytes × (Bytes × (Bytes × (Bytes × (Bytes × (ℕ × Unit {0}))))))))

abbrev pub field_line : Codec Line
field_line = line (number ▸ number ▸ number ▸ raw ▸ raw ▸ raw ▸ raw ▸ raw ▸ number ▸ done)

abbrev pub line_of : Shape → Option Info → ℕ → Line
line_of s i children =
    ((columns s).kind, ((columns s).p, ((columns s).q, ((columns s).text, ((columns s).more, ((info_columns i).0, ((info_columns i).1.0, ((info_columns i).1.1, (children, tt)))))))))

-- "`p`, `q`: size; precision and scale; unit; map sorted in `p`; dictionary index type and ordered; union mode. `text` is the timezone, the
-- extension's name, or the union's ids. `more` is the extension's metadata. Unused `p`, `q` are 0, unused texts `~`"
abbrev pub columns_of : Line → Columns
columns_of l = record { kind = l.0; p = l.1.0; q = l.1.1.0; text = l.1.1.1.0; more = l.1.1.1.1.0 }

abbrev pub own_of : Line → Own
own_of l = (l.1.1.1.1.1.0, (l.1.1.1.1.1.1.0, l.1.1.1.1.1.1.1.0))

abbrev pub children_of : Line → ℕ
children_of l = l.1.1.1.1.1.1.1.1.0

-- The lines of a type, after the columns of its field or, for a bare line, none. "`children` is 1 for lists, map, dictionary and extension, free
-- for struct and union, else 0. A dictionary's values and an extension's inner type are bare lines"
abbrev mutual
  pub type_lines : ArrowDataType → Option Info → List Bytes
  type_lines (scalar s) i = field_line.write (line_of (of_scalar s) i 0) ∷ []
  type_lines (nested n j t) i = field_line.write (line_of (of_nesting n) i 1) ∷ type_lines t (Some j)
  type_lines (grouped g fs) i = field_line.write (line_of (of_grouping g) i (count_fields fs)) ∷ fields_lines fs
  type_lines (dictionary ix ordered t) i = field_line.write (line_of (of_dictionary ix ordered) i 1) ∷ type_lines t None
  type_lines (extension n m t) i = field_line.write (line_of (of_extension n m) i 1) ∷ type_lines t None

  pub fields_lines : Fields → List Bytes
  fields_lines nil = []
  fields_lines (add i t fs) = type_lines t (Some i) ++ fields_lines fs

-- ── read

-- the unit at a place
abbrev pub unit_at : ℕ → Answer TimeUnit
unit_at p = cond (eqb p 0) (given second) (cond (eqb p 1) (given millisecond) (cond (eqb p 2) (given microsecond) (cond (eqb p 3) (given nanosecond) (refused bad_lines))))

-- 0 or 1
abbrev pub bool_at : ℕ → Answer Bool
bool_at p = cond (eqb p 0) (given false) (cond (eqb p 1) (given true) (refused bad_lines))

-- "an extension's name never is" `~`
abbrev pub read_some : Option Bytes → Answer Bytes
read_some None = refused bad_lines
read_some (Some b) = given b

-- a column's list
abbrev pub read_list : {A : Type 0} → (Bytes → Answer A) → Bytes → Answer (Option (List A))
read_list read t =
    cond (same t no_text) (given None)
    (cond (same t (ascii "-")) (given (Some []))
    (read_each read (split comma t) >>= λ l. given (Some l)))

-- the type that a line's kind and columns tell
abbrev pub shape_at : Columns → Answer Shape
shape_at c =
    cond (is_leaf c.kind) (given (of_scalar (leaf c.kind c.p)))
    (cond (eqb c.kind Kind.Timestamp) (unit_at c.p >>= λ u. read_text c.text >>= λ z. given (of_scalar (timestamp u z)))
    (cond (eqb c.kind Kind.FixedSizeBinary) (given (of_scalar (fixed_size_binary c.p)))
    (cond (eqb c.kind Kind.List) (given (of_nesting list))
    (cond (eqb c.kind Kind.FixedSizeList) (given (of_nesting (fixed_size_list c.p)))
    (cond (eqb c.kind Kind.LargeList) (given (of_nesting large_list))
    (cond (eqb c.kind Kind.Struct) (given (of_grouping struct))
    (cond (eqb c.kind Kind.Map) (bool_at c.p >>= λ b. given (of_nesting (map b)))
    (cond (eqb c.kind Kind.Dictionary) (bool_at c.q >>= λ b. given (of_dictionary c.p b))
    (cond (eqb c.kind Kind.Decimal) (given (of_scalar (decimal_type bits128 c.p c.q)))
    (cond (eqb c.kind Kind.Decimal32) (given (of_scalar (decimal_type bits32 c.p c.q)))
    (cond (eqb c.kind Kind.Decimal64) (given (of_scalar (decimal_type bits64 c.p c.q)))
    (cond (eqb c.kind Kind.Decimal256) (given (of_scalar (decimal_type bits256 c.p c.q)))
    (cond (eqb c.kind Kind.Extension) (read_text c.text >>= λ n. read_some n >>= λ n. read_text c.more >>= λ m. given (of_extension n m))
    (cond (eqb c.kind Kind.Union) (bool_at c.p >>= λ b. read_list read_signed c.text >>= λ ids. given (of_grouping (union b ids)))
    (refused bad_lines)))))))))))))))

abbrev pub same_columns : Columns → Columns → Bool
same_columns c d = eqb c.kind d.kind && (eqb c.p d.p && (eqb c.q d.q && (same c.text d.text && same c.more d.more)))

-- the columns must be those that the type is written with: so unused numbers are 0 and unused texts `~`
abbrev pub read_shape : Columns → Answer Shape
read_shape c = shape_at c >>= λ s. when bad_lines (is (same_columns (columns s) c)) s

-- a key and a value
abbrev pub pair_of : List Bytes → Answer Pair
pair_of [] = refused bad_lines
pair_of (k ∷ []) = refused bad_lines
pair_of (k ∷ v ∷ []) = unhex k >>= λ a. unhex v >>= λ b. given (a, b)
pair_of (k ∷ v ∷ x ∷ xs) = refused bad_lines

abbrev pub read_pair : Bytes → Answer Pair
read_pair t = pair_of (split equals t)

-- a line without a name is bare
abbrev pub info_named : Option Bytes → Own → Answer (Option Info)
info_named None o = given None
info_named (Some name) o = read_number o.1.0 >>= λ n. bool_at n >>= λ b. read_list read_pair o.1.1 >>= λ ps. given (Some (record { name = name; nullable = b; pairs = ps }))

abbrev pub same_own : Own → Own → Bool
same_own a b = same a.0 b.0 && (same a.1.0 b.1.0 && same a.1.1 b.1.1)

-- the columns must be those that the field is written with: so a bare line has `~` in all three
abbrev pub read_info : Own → Answer (Option Info)
read_info o = read_text o.0 >>= λ name. info_named name o >>= λ i. when bad_lines (is (same_own (info_columns i) o)) i

-- a type with its field's own columns, or none for a bare line
abbrev pub Entry : Type 0
Entry = Option Info × ArrowDataType

-- the fields, the one field, or the one bare line that a line takes off those after it
abbrev pub take_fields : ℕ → List Entry → Answer (Fields × List Entry)
take_fields zero ts = given (nil, ts)
take_fields (suc n) [] = refused bad_lines
take_fields (suc n) (t ∷ ts) = elim t.0 [ None ↦ refused bad_lines | Some i ↦ (take_fields n ts >>= λ (fs, rest). given (add i t.1 fs, rest)) ]

abbrev pub take_field : ℕ → List Entry → Answer (Field × List Entry)
take_field n [] = refused bad_lines
take_field n (t ∷ ts) = elim t.0 [ None ↦ refused bad_lines | Some i ↦ when bad_lines (is (eqb n 1)) (record { info = i; type = t.1 }, ts) ]

abbrev pub take_bare : ℕ → List Entry → Answer (ArrowDataType × List Entry)
take_bare n [] = refused bad_lines
take_bare n (t ∷ ts) = elim t.0 [ None ↦ when bad_lines (is (eqb n 1)) (t.1, ts) | Some i ↦ refused bad_lines ]

-- a line takes its subtrees off the types of the lines after it
abbrev pub place_type : Shape → ℕ → List Entry → Answer (ArrowDataType × List Entry)
place_type (of_scalar s) n ts = when bad_lines (is (eqb n 0)) (scalar s, ts)
place_type (of_nesting g) n ts = take_field n ts >>= λ (f, ts). given (nested g f.info f.type, ts)
place_type (of_grouping g) n ts = take_fields n ts >>= λ (fs, ts). given (grouped g fs, ts)
place_type (of_dictionary ix ordered) n ts = take_bare n ts >>= λ (t, ts). given (dictionary ix ordered t, ts)
place_type (of_extension a m) n ts = take_bare n ts >>= λ (t, ts). given (extension a m t, ts)

abbrev pub place_line : Line → List Entry → Answer (List Entry)
place_line l ts = do
  s ← read_shape (columns_of l)
  i ← read_info (own_of l)
  (t, ts) ← place_type s (children_of l) ts
  given ((i, t) ∷ ts)

-- the types whose lines these are, one after the other, from the last line to the first
abbrev pub entries : List Bytes → Answer (List Entry)
entries [] = given []
entries (b ∷ bs) = entries bs >>= λ ts. field_line.read b >>= λ l. place_line l ts

-- "All other lines, the first included, have a name"
abbrev pub field_of : Entry → Answer Field
field_of e = elim e.0 [ None ↦ refused bad_lines | Some i ↦ given (record { info = i; type = e.1 }) ]

abbrev pub field_heading : Bytes
field_heading = ascii "kind p q text more name nullable pairs children"

abbrev pub write_field_sheet : Field → Bytes
write_field_sheet f = write_sheet field_heading (type_lines f.type (Some f.info))

-- a sheet whose first line is bare
abbrev pub write_bare_sheet : ArrowDataType → Bytes
write_bare_sheet t = write_sheet field_heading (type_lines t None)

-- 1, 2 and 3 "over the whole sheet in that order"
abbrev pub read_field_sheet : Bytes → Answer Field
read_field_sheet b = do
  ls ← read_sheet field_heading b
  ts ← entries ls
  e ← single ts
  f ← field_of e
  f ← when bad_lines (field_rule f) f
  when too_deep (is (leb (field_levels f) level_limit)) f
