-- The case of an enumeration at a place: the first in declaration order that has it, if one has. Assumes nothing.
use Rattle.std.specs.Prelude.{cond, List, [], ◌∷◌, ℕ, eqb, Option, None, Some}
use Rattle.datatypes.specs.declared.units.TimeUnit.{TimeUnit}
use Rattle.datatypes.specs.declared.units.TimeUnit.TheVariants as TimeUnits
use Rattle.datatypes.specs.declared.units.IntervalUnit.{IntervalUnit}
use Rattle.datatypes.specs.declared.units.IntervalUnit.TheVariants as IntervalUnits
use Rattle.datatypes.specs.declared.units.UnionMode.{UnionMode}
use Rattle.datatypes.specs.declared.units.UnionMode.TheVariants as UnionModes
use Rattle.datatypes.specs.declared.IntegerType.{IntegerType}
use Rattle.datatypes.specs.declared.IntegerType.TheVariants as IntegerTypes
use Rattle.datatypes.specs.declared.PrimitiveType.{PrimitiveType}
use Rattle.datatypes.specs.declared.PrimitiveType.TheVariants as PrimitiveTypes

-- the first of the cases that has the place n
abbrev pub first_at : {A : Type 0} → (A → ℕ) → ℕ → List A → Option A
first_at place n [] = None
first_at place n (x ∷ xs) = cond (eqb n (place x)) (Some x) (first_at place n xs)

-- ── the cases of each enumeration

abbrev pub time_units : List TimeUnit
time_units = TimeUnits.Second ∷ TimeUnits.Millisecond ∷ TimeUnits.Microsecond ∷ TimeUnits.Nanosecond ∷ []

abbrev pub interval_units : List IntervalUnit
interval_units = IntervalUnits.YearMonth ∷ IntervalUnits.DayTime ∷ IntervalUnits.MonthDayNano ∷ IntervalUnits.MonthDayMillis ∷ []

abbrev pub union_modes : List UnionMode
union_modes = UnionModes.Dense ∷ UnionModes.Sparse ∷ []

abbrev pub integer_types : List IntegerType
integer_types =
    IntegerTypes.Int8 ∷ IntegerTypes.Int16 ∷ IntegerTypes.Int32 ∷ IntegerTypes.Int64 ∷ IntegerTypes.Int128 ∷ IntegerTypes.UInt8
    ∷ IntegerTypes.UInt16 ∷ IntegerTypes.UInt32 ∷ IntegerTypes.UInt64 ∷ IntegerTypes.UInt128 ∷ []

abbrev pub primitive_types : List PrimitiveType
primitive_types =
    PrimitiveTypes.Int8 ∷ PrimitiveTypes.Int16 ∷ PrimitiveTypes.Int32 ∷ PrimitiveTypes.Int64 ∷ PrimitiveTypes.Int128
    ∷ PrimitiveTypes.Int256 ∷ PrimitiveTypes.UInt8 ∷ PrimitiveTypes.UInt16 ∷ PrimitiveTypes.UInt32 ∷ PrimitiveTypes.UInt64
    ∷ PrimitiveTypes.UInt128 ∷ PrimitiveTypes.Float16 ∷ PrimitiveTypes.Float32 ∷ PrimitiveTypes.Float64 ∷ PrimitiveTypes.DaysMs
    ∷ PrimitiveTypes.MonthDayNano ∷ PrimitiveTypes.MonthDayMillis ∷ []
