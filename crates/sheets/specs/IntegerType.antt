-- The places in `IntegerType`, from 0 in declaration order: a dictionary's index type. Assumes nothing.
use Rattle.std.specs.Prelude.{ℕ}

abbrev pub Int8 : ℕ
Int8 = 0

abbrev pub Int16 : ℕ
Int16 = 1

abbrev pub Int32 : ℕ
Int32 = 2

abbrev pub Int64 : ℕ
Int64 = 3

abbrev pub Int128 : ℕ
Int128 = 4

abbrev pub UInt8 : ℕ
UInt8 = 5

abbrev pub UInt16 : ℕ
UInt16 = 6

abbrev pub UInt32 : ℕ
UInt32 = 7

abbrev pub UInt64 : ℕ
UInt64 = 8

abbrev pub UInt128 : ℕ
UInt128 = 9
