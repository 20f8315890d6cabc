-- Fields and their types, as `Field` and `ArrowDataType` of the source have them, and the rules of document 01, 'Field sheet', for what they
-- hold. Types that behave alike stand under one constructor: scalar types have no children, nested types have one field, grouped types any
-- number. Assumes nothing.
use Rattle.std.specs.Prelude.{Bool, true, false, ◌&&◌, ◌||◌, cond, List, [], ◌∷◌, ℕ, zero, suc, ◌^◌, max, eqb, leb, ltb, ℤ, pos, Option, None, Some}
use Rattle.std.specs.Int.Signed.{mag}
use Rattle.sheets.specs.Rule.{Rule, is, ◌and◌, each}
use Rattle.sheets.specs.Bytes.{Bytes}
use Rattle.sheets.specs.Utf8.{is_utf8}
use Rattle.sheets.specs.Kind

-- a key and its value
abbrev pub Pair : Type 0
Pair = Bytes × Bytes

-- what a field says beside its type; `pairs` none is the source's None
pub record Info : Type 0 where
  pub name : Bytes
  pub nullable : Bool
  pub pairs : Option (List Pair)

-- `TimeUnit`
pub data TimeUnit : Type 0 where
  second millisecond microsecond nanosecond : TimeUnit

-- "unit (declaration order, from 0)"
abbrev pub unit_place : TimeUnit → ℕ
unit_place second = 0
unit_place millisecond = 1
unit_place microsecond = 2
unit_place nanosecond = 3

-- the bits of a decimal: Decimal, Decimal32, Decimal64, Decimal256
pub data Width : Type 0 where
  bits128 bits32 bits64 bits256 : Width

pub data Scalar : Type 0 where
  -- a type that its place in `ArrowDataType` and a unit's place (0 where it has none) tell
  leaf : ℕ → ℕ → Scalar
  -- the unit and the timezone
  timestamp : TimeUnit → Option Bytes → Scalar
  -- the size
  fixed_size_binary : ℕ → Scalar
  -- precision and scale
  decimal_type : Width → ℕ → ℕ → Scalar

pub data Nesting : Type 0 where
  list large_list : Nesting
  -- the size
  fixed_size_list : ℕ → Nesting
  -- its keys are sorted or not
  map : Bool → Nesting

-- `UnionMode`: sparse is true, dense is false
abbrev pub UnionMode : Type 0
UnionMode = Bool

pub data Grouping : Type 0 where
  struct : Grouping
  -- the mode and the ids
  union : UnionMode → Option (List ℤ) → Grouping

mutual
  pub data ArrowDataType : Type 0 where
    scalar : Scalar → ArrowDataType
    -- a type over one field
    nested : Nesting → Info → ArrowDataType → ArrowDataType
    -- a type over fields
    grouped : Grouping → Fields → ArrowDataType
    -- the index type's place in `IntegerType`, ordered or not, the values' type
    dictionary : ℕ → Bool → ArrowDataType → ArrowDataType
    -- the extension's name and metadata, the inner type
    extension : Bytes → Option Bytes → ArrowDataType → ArrowDataType

  -- fields in order: each has an `Info` and a type
  pub data Fields : Type 0 where
    nil : Fields
    add : Info → ArrowDataType → Fields → Fields

pub record Field : Type 0 where
  pub info : Info
  pub type : ArrowDataType

abbrev pub count_fields : Fields → ℕ
count_fields nil = 0
count_fields (add i t fs) = suc (count_fields fs)

-- n, n + 1, .., count of them
abbrev pub up_from : ℕ → ℕ → List ℤ
up_from n zero = []
up_from n (suc count) = pos n ∷ up_from (suc n) count

-- ── rules

-- "unit (declaration order, from 0)": Time32, Time64, Duration, Interval
abbrev pub has_unit : ℕ → Bool
has_unit k = leb Kind.Time32 k && leb k Kind.Interval

-- the types that a place and a unit tell
abbrev pub is_leaf : ℕ → Bool
is_leaf k =
    leb k Kind.Float64
    || (leb Kind.Date32 k && leb k Kind.Binary)
    || (leb Kind.LargeBinary k && leb k Kind.LargeUtf8)
    || (leb Kind.BinaryView k && leb k Kind.Unknown)

-- a unit is one of four; "unused `p`, `q` are 0"
abbrev pub leaf_rule : ℕ → ℕ → Rule
leaf_rule k u = is (is_leaf k) and is (cond (has_unit k) (ltb u 4) (eqb u 0))

-- "Names, texts and both sides of a pair are UTF-8"
abbrev pub text_rule : Option Bytes → Rule
text_rule None = is true
text_rule (Some b) = is (is_utf8 b)

-- "`p`, `q` are unsigned 64-bit"
abbrev pub size_rule : ℕ → Rule
size_rule n = is (ltb n (2 ^ 64))

abbrev pub scalar_rule : Scalar → Rule
scalar_rule (leaf k u) = leaf_rule k u
scalar_rule (timestamp u zone) = text_rule zone
scalar_rule (fixed_size_binary n) = size_rule n
scalar_rule (decimal_type w p s) = size_rule p and size_rule s

abbrev pub nesting_rule : Nesting → Rule
nesting_rule list = is true
nesting_rule large_list = is true
nesting_rule (fixed_size_list n) = size_rule n
nesting_rule (map sorted) = is true

-- "signed 32-bit numbers": `mag` is n of n and of -(n + 1)
abbrev pub id_rule : ℤ → Rule
id_rule z = is (ltb (mag z) (2 ^ 31))

abbrev pub grouping_rule : Grouping → Rule
grouping_rule struct = is true
grouping_rule (union mode None) = is true
grouping_rule (union mode (Some ids)) = each id_rule ids

-- bytes in order, as the bytes of the first difference are; the shorter of two that agree so far comes first
abbrev pub before : Bytes → Bytes → Bool
before [] [] = false
before [] (y ∷ ys) = true
before (x ∷ xs) [] = false
before (x ∷ xs) (y ∷ ys) = ltb x y || (eqb x y && before xs ys)

abbrev pub first_after : Bytes → List Pair → Bool
first_after k [] = true
first_after k (p ∷ ps) = before k p.0

-- "both sides of a pair are UTF-8"
abbrev pub pair_rule : Pair → Rule
pair_rule p = is (is_utf8 p.0) and is (is_utf8 p.1)

-- "keys strictly ascending by byte", both sides UTF-8
abbrev pub pairs_rule : List Pair → Rule
pairs_rule [] = is true
pairs_rule (p ∷ ps) = is (is_utf8 p.0) and is (is_utf8 p.1) and is (first_after p.0 ps) and pairs_rule ps

abbrev pub metadata_rule : Option (List Pair) → Rule
metadata_rule None = is true
metadata_rule (Some ps) = pairs_rule ps

abbrev pub info_rule : Info → Rule
info_rule i = is (is_utf8 i.name) and metadata_rule i.pairs

-- an index type is one of the ten of `IntegerType`
abbrev mutual
  pub type_rule : ArrowDataType → Rule
  type_rule (scalar s) = scalar_rule s
  type_rule (nested n i t) = nesting_rule n and info_rule i and type_rule t
  type_rule (grouped g fs) = grouping_rule g and fields_rule fs
  type_rule (dictionary ix ordered t) = is (ltb ix 10) and type_rule t
  type_rule (extension n m t) = is (is_utf8 n) and text_rule m and type_rule t

  pub fields_rule : Fields → Rule
  fields_rule nil = is true
  fields_rule (add i t fs) = info_rule i and type_rule t and fields_rule fs

abbrev pub field_rule : Field → Rule
field_rule f = info_rule f.info and type_rule f.type

-- The levels of a type's lines. "An extension's inner line is on its extension's level, unless it is an extension too: then one level deeper":
-- the flag says that the type stands directly in an extension.
abbrev mutual
  pub type_levels : ArrowDataType → Bool → ℕ
  type_levels (scalar s) inside = 1
  type_levels (nested n i t) inside = suc (type_levels t false)
  type_levels (grouped g fs) inside = suc (fields_levels fs)
  type_levels (dictionary ix ordered t) inside = suc (type_levels t false)
  type_levels (extension n m t) false = type_levels t true
  type_levels (extension n m t) true = suc (type_levels t true)

  pub fields_levels : Fields → ℕ
  fields_levels nil = 0
  fields_levels (add i t fs) = max (type_levels t false) (fields_levels fs)

abbrev pub field_levels : Field → ℕ
field_levels f = type_levels f.type false
