-- The numbers of document 01 for the cases of each enumeration: "from 0 in declaration order". They are the places that the definitions of
-- the sheets name, so that no case is numbered twice. Assumes nothing.
use Rattle.std.specs.Prelude.{Bool, true, false, ℕ}
use Rattle.sheets.specs.Field.{second, millisecond, microsecond, nanosecond, unit_place}
use Rattle.sheets.specs.Field.{TimeUnit as SheetUnit}
use Rattle.sheets.specs.FieldSheet.{to_nat}
use Rattle.sheets.specs.IntervalUnit as IntervalPlace
use Rattle.sheets.specs.IntegerType as IntegerPlace
use Rattle.sheets.specs.PrimitiveType as PrimitivePlace
use Rattle.datatypes.specs.declared.units.TimeUnit.{TimeUnit}
use Rattle.datatypes.specs.declared.units.TimeUnit.TheVariants as TimeUnits
use Rattle.datatypes.specs.declared.units.IntervalUnit.{IntervalUnit}
use Rattle.datatypes.specs.declared.units.IntervalUnit.TheVariants as IntervalUnits
use Rattle.datatypes.specs.declared.units.UnionMode.{UnionMode}
use Rattle.datatypes.specs.declared.units.UnionMode.TheVariants as UnionModes
use Rattle.datatypes.specs.declared.IntegerType.{IntegerType}
use Rattle.datatypes.specs.declared.IntegerType.TheVariants as IntegerTypes
use Rattle.datatypes.specs.declared.PrimitiveType.{PrimitiveType}
use Rattle.datatypes.specs.declared.PrimitiveType.TheVariants as PrimitiveTypes

-- the unit, as fields have it
abbrev pub time_unit : TimeUnit → SheetUnit
time_unit TimeUnits.Second = second
time_unit TimeUnits.Millisecond = millisecond
time_unit TimeUnits.Microsecond = microsecond
time_unit TimeUnits.Nanosecond = nanosecond

abbrev pub time_place : TimeUnit → ℕ
time_place u = unit_place (time_unit u)

abbrev pub interval_place : IntervalUnit → ℕ
interval_place IntervalUnits.YearMonth = IntervalPlace.YearMonth
interval_place IntervalUnits.DayTime = IntervalPlace.DayTime
interval_place IntervalUnits.MonthDayNano = IntervalPlace.MonthDayNano
interval_place IntervalUnits.MonthDayMillis = IntervalPlace.MonthDayMillis

-- the mode, as fields have it
abbrev pub is_sparse : UnionMode → Bool
is_sparse UnionModes.Dense = false
is_sparse UnionModes.Sparse = true

-- "union mode (0 dense, 1 sparse)"
abbrev pub union_place : UnionMode → ℕ
union_place UnionModes.Dense = to_nat false
union_place UnionModes.Sparse = to_nat true

abbrev pub integer_place : IntegerType → ℕ
integer_place IntegerTypes.Int8 = IntegerPlace.Int8
integer_place IntegerTypes.Int16 = IntegerPlace.Int16
integer_place IntegerTypes.Int32 = IntegerPlace.Int32
integer_place IntegerTypes.Int64 = IntegerPlace.Int64
integer_place IntegerTypes.Int128 = IntegerPlace.Int128
integer_place IntegerTypes.UInt8 = IntegerPlace.UInt8
integer_place IntegerTypes.UInt16 = IntegerPlace.UInt16
integer_place IntegerTypes.UInt32 = IntegerPlace.UInt32
integer_place IntegerTypes.UInt64 = IntegerPlace.UInt64
integer_place IntegerTypes.UInt128 = IntegerPlace.UInt128

abbrev pub primitive_place : PrimitiveType → ℕ
primitive_place PrimitiveTypes.Int8 = PrimitivePlace.Int8
primitive_place PrimitiveTypes.Int16 = PrimitivePlace.Int16
primitive_place PrimitiveTypes.Int32 = PrimitivePlace.Int32
primitive_place PrimitiveTypes.Int64 = PrimitivePlace.Int64
primitive_place PrimitiveTypes.Int128 = PrimitivePlace.Int128
primitive_place PrimitiveTypes.Int256 = PrimitivePlace.Int256
primitive_place PrimitiveTypes.UInt8 = PrimitivePlace.UInt8
primitive_place PrimitiveTypes.UInt16 = PrimitivePlace.UInt16
primitive_place PrimitiveTypes.UInt32 = PrimitivePlace.UInt32
primitive_place PrimitiveTypes.UInt64 = PrimitivePlace.UInt64
primitive_place PrimitiveTypes.UInt128 = PrimitivePlace.UInt128
primitive_place PrimitiveTypes.Float16 = PrimitivePlace.Float16
primitive_place PrimitiveTypes.Float32 = PrimitivePlace.Float32
primitive_place PrimitiveTypes.Float64 = PrimitivePlace.Float64
primitive_place PrimitiveTypes.DaysMs = PrimitivePlace.DaysMs
primitive_place PrimitiveTypes.MonthDayNano = PrimitivePlace.MonthDayNano
primitive_place PrimitiveTypes.MonthDayMillis = PrimitivePlace.MonthDayMillis
