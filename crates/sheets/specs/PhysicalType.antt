-- The places in `PhysicalType`, from 0 in declaration order. Assumes nothing.
use Rattle.std.specs.Prelude.{ℕ}

abbrev pub Null : ℕ
Null = 0

abbrev pub Boolean : ℕ
Boolean = 1

abbrev pub Primitive : ℕ
Primitive = 2

abbrev pub Binary : ℕ
Binary = 3

abbrev pub FixedSizeBinary : ℕ
FixedSizeBinary = 4

abbrev pub LargeBinary : ℕ
LargeBinary = 5

abbrev pub Utf8 : ℕ
Utf8 = 6

abbrev pub LargeUtf8 : ℕ
LargeUtf8 = 7

abbrev pub List : ℕ
List = 8

abbrev pub FixedSizeList : ℕ
FixedSizeList = 9

abbrev pub LargeList : ℕ
LargeList = 10

abbrev pub Struct : ℕ
Struct = 11

abbrev pub Union : ℕ
Union = 12

abbrev pub Map : ℕ
Map = 13

abbrev pub Dictionary : ℕ
Dictionary = 14

abbrev pub BinaryView : ℕ
BinaryView = 15

abbrev pub Utf8View : ℕ
Utf8View = 16
