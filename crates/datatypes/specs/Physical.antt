-- `to_physical_type` of a line by its columns `kind` and `p`, where it does not look at the lines below. Assumes nothing.
use Rattle.std.specs.Prelude.{Bool, false, cond, List, [], ◌∷◌, ℕ, leb, Option, None, Some}
use Rattle.sheets.specs.Refusal.{undefined_mapping}
use Rattle.sheets.specs.Answer.{Answer, refused, given}
use Rattle.sheets.specs.Sheet.{is_some}
use Rattle.sheets.specs.Field.{second, bits128, bits32, bits64, bits256, timestamp, fixed_size_binary, decimal_type, list, large_list, fixed_size_list, map, struct, union}
use Rattle.sheets.specs.Mappings.{leaf_physical, scalar_physical, nesting_physical, grouping_physical}
use Rattle.sheets.specs.Mappings.{PhysicalType as HostPhysical}
use Rattle.sheets.specs.Kind
use Rattle.sheets.specs.IntegerType as IntegerPlace
use Rattle.sheets.specs.PhysicalType as PhysicalPlace
use Rattle.datatypes.specs.At.{first_at}
use Rattle.datatypes.specs.PhysicalPlaces.{bearing, physical_of}
use Rattle.datatypes.specs.declared.PrimitiveType.{PrimitiveType}
use Rattle.datatypes.specs.declared.physical_type.PhysicalType.{PhysicalType}
use Rattle.datatypes.specs.declared.physical_type.PhysicalType.TheVariants as PhysicalTypes

-- the numbers of a physical type that carries a primitive type
abbrev pub primitive_physical : PrimitiveType → HostPhysical
primitive_physical t = physical_of (PhysicalTypes.Primitive t)

-- the numbers of document 01 for each case of the answer
abbrev pub physical_answer : Option PhysicalType → Answer HostPhysical
physical_answer (Some t) = given (physical_of t)
physical_answer None = refused undefined_mapping

-- a dictionary's, by its index type's place
abbrev pub index_physical : ℕ → Answer HostPhysical
index_physical ix = cond (leb ix IntegerPlace.UInt128) (given (bearing PhysicalPlace.Dictionary ix)) (refused undefined_mapping)

-- the kinds that more than a unit tells, and their physical types, whatever else their lines say
abbrev pub other_kinds : ℕ → List (ℕ × Answer HostPhysical)
other_kinds p =
    (Kind.Timestamp, scalar_physical (timestamp second None))
    ∷ (Kind.FixedSizeBinary, scalar_physical (fixed_size_binary p))
    ∷ (Kind.List, given (nesting_physical list))
    ∷ (Kind.FixedSizeList, given (nesting_physical (fixed_size_list p)))
    ∷ (Kind.LargeList, given (nesting_physical large_list))
    ∷ (Kind.Struct, given (grouping_physical struct))
    ∷ (Kind.Map, given (nesting_physical (map false)))
    ∷ (Kind.Dictionary, index_physical p)
    ∷ (Kind.Decimal, scalar_physical (decimal_type bits128 p 0))
    ∷ (Kind.Decimal32, scalar_physical (decimal_type bits32 p 0))
    ∷ (Kind.Decimal64, scalar_physical (decimal_type bits64 p 0))
    ∷ (Kind.Decimal256, scalar_physical (decimal_type bits256 p 0))
    ∷ (Kind.Union, given (grouping_physical (union false None)))
    ∷ []

-- the answer of the row that was found, or another
abbrev pub row_or : Answer HostPhysical → Option (ℕ × Answer HostPhysical) → Answer HostPhysical
row_or a None = a
row_or a (Some r) = r.1

abbrev pub kind_physical : ℕ → ℕ → Answer HostPhysical
kind_physical k p = row_or (leaf_physical k p) (first_at (λ r. r.0) k (other_kinds p))

-- ── the kinds whose values are primitive

abbrev pub primitive_kinds : List ℕ
primitive_kinds =
    Kind.Int8 ∷ Kind.Int16 ∷ Kind.Int32 ∷ Kind.Int64 ∷ Kind.Int128 ∷ Kind.UInt8 ∷ Kind.UInt16 ∷ Kind.UInt32 ∷ Kind.UInt64 ∷ Kind.UInt128
    ∷ Kind.Float16 ∷ Kind.Float32 ∷ Kind.Float64 ∷ Kind.Timestamp ∷ Kind.Date32 ∷ Kind.Date64 ∷ Kind.Time32 ∷ Kind.Time64 ∷ Kind.Duration
    ∷ Kind.Interval ∷ Kind.Decimal ∷ Kind.Decimal32 ∷ Kind.Decimal64 ∷ Kind.Decimal256 ∷ []

abbrev pub is_primitive : ℕ → Bool
is_primitive k = is_some (first_at (λ j. j) k primitive_kinds)

abbrev pub primitive_only : ℕ → ℕ → Answer HostPhysical
primitive_only k p = cond (is_primitive k) (kind_physical k p) (refused undefined_mapping)

-- the numbers of document 01 for each case of the answer
abbrev pub primitive_answer : Option PrimitiveType → Answer HostPhysical
primitive_answer (Some t) = given (primitive_physical t)
primitive_answer None = refused undefined_mapping
