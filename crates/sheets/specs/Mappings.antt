-- Document 01, 'Mappings': what the source's methods of `ArrowDataType` answer; where they have no answer, 15. Assumes nothing.
use Rattle.std.specs.Prelude.{Bool, true, false, ◌||◌, cond, List, [], ◌∷◌, ℕ, zero, suc, ◌+◌, ◌-◌, eqb, leb, ltb, Option, None, Some}
use Rattle.sheets.specs.Refusal.{undefined_mapping}
use Rattle.sheets.specs.Answer.{Answer, refused, given, ◌>>=◌, found}
use Rattle.sheets.specs.Field.{bits128, bits32, bits64, bits256, Scalar, leaf, timestamp, fixed_size_binary, decimal_type, Nesting, list, large_list, fixed_size_list, map, Grouping, struct, union, ArrowDataType, scalar, nested, grouped, dictionary, extension, Fields, nil, add, Field}
use Rattle.sheets.specs.Plain.{index_type}
use Rattle.sheets.specs.Kind
use Rattle.sheets.specs.IntegerType
use Rattle.sheets.specs.IntervalUnit
use Rattle.sheets.specs.PrimitiveType as Primitive
use Rattle.sheets.specs.PhysicalType as Physical

-- "a physical type carries its primitive or index type; the host gets two numbers, the place in `PhysicalType` and that of the inner type, from 0
-- in declaration order, the second 0 if there is none"
pub record PhysicalType : Type 0 where
  pub place : ℕ
  pub inner : ℕ

abbrev bare_type : ℕ → PhysicalType
bare_type p = record { place = p; inner = 0 }

abbrev primitive : ℕ → PhysicalType
primitive i = record { place = Physical.Primitive; inner = i }

abbrev dictionary_of : ℕ → PhysicalType
dictionary_of i = record { place = Physical.Dictionary; inner = i }

-- for types without children: the place in `ArrowDataType`, the physical type, and the underlying type's place
pub record LeafRow : Type 0 where
  pub kind : ℕ
  pub shape : PhysicalType
  pub under : ℕ

abbrev row : ℕ → PhysicalType → ℕ → LeafRow
row k p u = record { kind = k; shape = p; under = u }

-- all that a place tells, but for Interval and Unknown
unfoldable pub leaf_rows : List LeafRow
leaf_rows =
    row Kind.Null (bare_type Physical.Null) Kind.Null
    ∷ row Kind.Boolean (bare_type Physical.Boolean) Kind.Boolean
    ∷ row Kind.Int8 (primitive Primitive.Int8) Kind.Int8
    ∷ row Kind.Int16 (primitive Primitive.Int16) Kind.Int16
    ∷ row Kind.Int32 (primitive Primitive.Int32) Kind.Int32
    ∷ row Kind.Int64 (primitive Primitive.Int64) Kind.Int64
    ∷ row Kind.Int128 (primitive Primitive.Int128) Kind.Int128
    ∷ row Kind.UInt8 (primitive Primitive.UInt8) Kind.UInt8
    ∷ row Kind.UInt16 (primitive Primitive.UInt16) Kind.UInt16
    ∷ row Kind.UInt32 (primitive Primitive.UInt32) Kind.UInt32
    ∷ row Kind.UInt64 (primitive Primitive.UInt64) Kind.UInt64
    ∷ row Kind.UInt128 (primitive Primitive.UInt128) Kind.UInt128
    ∷ row Kind.Float16 (primitive Primitive.Float16) Kind.Float16
    ∷ row Kind.Float32 (primitive Primitive.Float32) Kind.Float32
    ∷ row Kind.Float64 (primitive Primitive.Float64) Kind.Float64
    ∷ row Kind.Date32 (primitive Primitive.Int32) Kind.Int32
    ∷ row Kind.Date64 (primitive Primitive.Int64) Kind.Int64
    ∷ row Kind.Time32 (primitive Primitive.Int32) Kind.Int32
    ∷ row Kind.Time64 (primitive Primitive.Int64) Kind.Int64
    ∷ row Kind.Duration (primitive Primitive.Int64) Kind.Int64
    ∷ row Kind.Binary (bare_type Physical.Binary) Kind.Binary
    ∷ row Kind.LargeBinary (bare_type Physical.LargeBinary) Kind.LargeBinary
    ∷ row Kind.Utf8 (bare_type Physical.Utf8) Kind.Utf8
    ∷ row Kind.LargeUtf8 (bare_type Physical.LargeUtf8) Kind.LargeUtf8
    ∷ row Kind.BinaryView (bare_type Physical.BinaryView) Kind.BinaryView
    ∷ row Kind.Utf8View (bare_type Physical.Utf8View) Kind.Utf8View
    ∷ []

abbrev pub row_at : ℕ → List LeafRow → Option LeafRow
row_at k [] = None
row_at k (r ∷ rs) = cond (eqb k r.kind) (Some r) (row_at k rs)

-- ── `to_physical_type`

-- "DayTime is physically DaysMs"
abbrev pub interval_physical : ℕ → PhysicalType
interval_physical u =
    cond (eqb u IntervalUnit.YearMonth) (primitive Primitive.Int32)
    (cond (eqb u IntervalUnit.DayTime) (primitive Primitive.DaysMs)
    (cond (eqb u IntervalUnit.MonthDayNano) (primitive Primitive.MonthDayNano) (primitive Primitive.MonthDayMillis)))

abbrev pub leaf_physical : ℕ → ℕ → Answer PhysicalType
leaf_physical k u =
    cond (eqb k Kind.Interval) (given (interval_physical u))
    (found undefined_mapping (row_at k leaf_rows) >>= λ r. given r.shape)

abbrev pub scalar_physical : Scalar → Answer PhysicalType
scalar_physical (leaf k u) = leaf_physical k u
scalar_physical (timestamp u z) = given (primitive Primitive.Int64)
scalar_physical (fixed_size_binary n) = given (bare_type Physical.FixedSizeBinary)
scalar_physical (decimal_type bits128 p s) = given (primitive Primitive.Int128)
scalar_physical (decimal_type bits32 p s) = given (primitive Primitive.Int32)
scalar_physical (decimal_type bits64 p s) = given (primitive Primitive.Int64)
scalar_physical (decimal_type bits256 p s) = given (primitive Primitive.Int256)

abbrev pub nesting_physical : Nesting → PhysicalType
nesting_physical list = bare_type Physical.List
nesting_physical (fixed_size_list n) = bare_type Physical.FixedSizeList
nesting_physical large_list = bare_type Physical.LargeList
nesting_physical (map sorted) = bare_type Physical.Map

abbrev pub grouping_physical : Grouping → PhysicalType
grouping_physical struct = bare_type Physical.Struct
grouping_physical (union mode ids) = bare_type Physical.Union

abbrev pub to_physical_type : ArrowDataType → Answer PhysicalType
to_physical_type (scalar s) = scalar_physical s
to_physical_type (nested n i t) = given (nesting_physical n)
to_physical_type (grouped g fs) = given (grouping_physical g)
to_physical_type (dictionary ix ordered t) = given (dictionary_of ix)
to_physical_type (extension n m t) = to_physical_type t

-- ── `underlying_physical_type`

-- "DayTime is physically DaysMs yet underlyingly Int64"
abbrev pub interval_under : ℕ → Answer ArrowDataType
interval_under u =
    cond (eqb u IntervalUnit.YearMonth) (given (scalar (leaf Kind.Int32 0)))
    (cond (eqb u IntervalUnit.DayTime) (given (scalar (leaf Kind.Int64 0))) (refused undefined_mapping))

-- Unknown is its own underlying type
abbrev pub leaf_under : ℕ → ℕ → Answer ArrowDataType
leaf_under k u =
    cond (eqb k Kind.Interval) (interval_under u)
    (cond (eqb k Kind.Unknown) (given (scalar (leaf Kind.Unknown 0))) (found undefined_mapping (row_at k leaf_rows) >>= λ r. given (scalar (leaf r.under 0))))

abbrev pub scalar_under : Scalar → Answer ArrowDataType
scalar_under (leaf k u) = leaf_under k u
scalar_under (timestamp u z) = given (scalar (leaf Kind.Int64 0))
scalar_under (fixed_size_binary n) = given (scalar (fixed_size_binary n))
scalar_under (decimal_type bits128 p s) = given (scalar (leaf Kind.Int128 0))
scalar_under (decimal_type bits32 p s) = given (scalar (leaf Kind.Int32 0))
scalar_under (decimal_type bits64 p s) = given (scalar (leaf Kind.Int64 0))
scalar_under (decimal_type bits256 p s) = refused undefined_mapping

abbrev pub is_map : Nesting → Bool
is_map list = false
is_map large_list = false
is_map (fixed_size_list n) = false
is_map (map sorted) = true

abbrev pub is_union : Grouping → Bool
is_union struct = false
is_union (union mode ids) = true

-- the answer, where the mapping is defined
abbrev pub unless : {A : Type 0} → Bool → Answer A → Answer A
unless true a = refused undefined_mapping
unless false a = a

-- a dictionary's values are not looked at
abbrev mutual
  pub underlying_physical_type : ArrowDataType → Answer ArrowDataType
  underlying_physical_type (scalar s) = scalar_under s
  underlying_physical_type (nested n i t) = unless (is_map n) (underlying_physical_type t >>= λ u. given (nested n i u))
  underlying_physical_type (grouped g fs) = unless (is_union g) (fields_underlying fs >>= λ us. given (grouped g us))
  underlying_physical_type (dictionary ix ordered t) = given (index_type ix)
  underlying_physical_type (extension n m t) = underlying_physical_type t

  pub fields_underlying : Fields → Answer Fields
  fields_underlying nil = given nil
  fields_underlying (add i t fs) = underlying_physical_type t >>= λ u. fields_underlying fs >>= λ us. given (add i u us)

-- ── `to_storage`

abbrev pub to_storage : ArrowDataType → ArrowDataType
to_storage (scalar s) = scalar s
to_storage (nested n i t) = nested n i t
to_storage (grouped g fs) = grouped g fs
to_storage (dictionary ix ordered t) = dictionary ix ordered t
to_storage (extension n m t) = to_storage t

-- ── `to_storage_recursive`

-- a dictionary's values are looked at
abbrev mutual
  pub to_storage_recursive : ArrowDataType → Answer ArrowDataType
  to_storage_recursive (scalar s) = given (scalar s)
  to_storage_recursive (nested n i t) = unless (is_map n) (to_storage_recursive t >>= λ u. given (nested n i u))
  to_storage_recursive (grouped g fs) = unless (is_union g) (fields_storage fs >>= λ us. given (grouped g us))
  to_storage_recursive (dictionary ix ordered t) = to_storage_recursive t >>= λ u. given (dictionary ix ordered u)
  to_storage_recursive (extension n m t) = to_storage_recursive t

  pub fields_storage : Fields → Answer Fields
  fields_storage nil = given nil
  fields_storage (add i t fs) = to_storage_recursive t >>= λ u. fields_storage fs >>= λ us. given (add i u us)

-- ── `inner_dtype`: "no such child (`inner_dtype` of other kinds too)"

abbrev pub inner_dtype : ArrowDataType → Answer ArrowDataType
inner_dtype (scalar s) = refused undefined_mapping
inner_dtype (nested n i t) = unless (is_map n) (given t)
inner_dtype (grouped g fs) = refused undefined_mapping
inner_dtype (dictionary ix ordered t) = refused undefined_mapping
inner_dtype (extension n m t) = refused undefined_mapping

-- ── `get_child`

abbrev pub type_at : Fields → ℕ → Answer ArrowDataType
type_at nil k = refused undefined_mapping
type_at (add i t fs) zero = given t
type_at (add i t fs) (suc k) = type_at fs k

abbrev pub get_child : ℕ → ArrowDataType → Answer ArrowDataType
get_child k (scalar s) = refused undefined_mapping
get_child k (nested n i t) = cond (eqb k 0) (given t) (refused undefined_mapping)
get_child k (grouped g fs) = type_at fs k
get_child k (dictionary ix ordered t) = refused undefined_mapping
get_child k (extension n m t) = get_child k t

-- ── `is_nested`, `contains_dictionary`

abbrev pub is_nested : ArrowDataType → Bool
is_nested (scalar s) = false
is_nested (nested n i t) = true
is_nested (grouped g fs) = true
is_nested (dictionary ix ordered t) = true
is_nested (extension n m t) = true

abbrev mutual
  pub contains_dictionary : ArrowDataType → Bool
  contains_dictionary (scalar s) = false
  contains_dictionary (nested n i t) = contains_dictionary t
  contains_dictionary (grouped g fs) = any_dictionary fs
  contains_dictionary (dictionary ix ordered t) = true
  contains_dictionary (extension n m t) = contains_dictionary t

  pub any_dictionary : Fields → Bool
  any_dictionary nil = false
  any_dictionary (add i t fs) = contains_dictionary t || any_dictionary fs

-- ── the conversions: "A conversion takes the type's place in its enumeration"; 15 "no such place to convert"

-- `From<IntegerType>`
abbrev pub from_integer_type : ℕ → Answer ArrowDataType
from_integer_type p = cond (leb p IntegerType.UInt128) (given (index_type p)) (refused undefined_mapping)

-- `From<PrimitiveType>`: Int256 becomes Decimal256(32, 32), which has no place among the integers; the last three are intervals
abbrev pub from_primitive_type : ℕ → Answer ArrowDataType
from_primitive_type p =
    cond (ltb p Primitive.Int256) (given (scalar (leaf (p + Kind.Int8) 0)))
    (cond (eqb p Primitive.Int256) (given (scalar (decimal_type bits256 32 32)))
    (cond (leb p Primitive.Float64) (given (scalar (leaf ((p - Primitive.UInt8) + Kind.UInt8) 0)))
    (cond (leb p Primitive.MonthDayMillis) (given (scalar (leaf Kind.Interval ((p - Primitive.DaysMs) + IntervalUnit.DayTime)))) (refused undefined_mapping))))

-- `with_dtype`: "the field with its type replaced"
abbrev pub with_dtype : Field → ArrowDataType → Field
with_dtype f t = record { info = f.info; type = t }
