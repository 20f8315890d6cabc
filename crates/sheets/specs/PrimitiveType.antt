-- The places in `PrimitiveType`, from 0 in declaration order. Assumes nothing.
use Rattle.std.specs.Prelude.{ℕ}

abbrev pub Int8 : ℕ
Int8 = 0

abbrev pub Int16 : ℕ
Int16 = 1

abbrev pub Int32 : ℕ
Int32 = 2

abbrev pub Int64 : ℕ
Int64 = 3

abbrev pub Int128 : ℕ
Int128 = 4

abbrev pub Int256 : ℕ
Int256 = 5

abbrev pub UInt8 : ℕ
UInt8 = 6

abbrev pub UInt16 : ℕ
UInt16 = 7

abbrev pub UInt32 : ℕ
UInt32 = 8

abbrev pub UInt64 : ℕ
UInt64 = 9

abbrev pub UInt128 : ℕ
UInt128 = 10

abbrev pub Float16 : ℕ
Float16 = 11

abbrev pub Float32 : ℕ
Float32 = 12

abbrev pub Float64 : ℕ
Float64 = 13

abbrev pub DaysMs : ℕ
DaysMs = 14

abbrev pub MonthDayNano : ℕ
MonthDayNano = 15

abbrev pub MonthDayMillis : ℕ
MonthDayMillis = 16
