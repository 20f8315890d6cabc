-- Document 01, 'Field sheet': "`kind` is the place of the type in `ArrowDataType`, from Null 0 to Union 41". Assumes nothing.
use Rattle.std.specs.Prelude.{ℕ}

abbrev pub Null : ℕ
Null = 0

abbrev pub Boolean : ℕ
Boolean = 1

abbrev pub Int8 : ℕ
Int8 = 2

abbrev pub Int16 : ℕ
Int16 = 3

abbrev pub Int32 : ℕ
Int32 = 4

abbrev pub Int64 : ℕ
Int64 = 5

abbrev pub Int128 : ℕ
Int128 = 6

abbrev pub UInt8 : ℕ
UInt8 = 7

abbrev pub UInt16 : ℕ
UInt16 = 8

abbrev pub UInt32 : ℕ
UInt32 = 9

abbrev pub UInt64 : ℕ
UInt64 = 10

abbrev pub UInt128 : ℕ
UInt128 = 11

abbrev pub Float16 : ℕ
Float16 = 12

abbrev pub Float32 : ℕ
Float32 = 13

abbrev pub Float64 : ℕ
Float64 = 14

abbrev pub Timestamp : ℕ
Timestamp = 15

abbrev pub Date32 : ℕ
Date32 = 16

abbrev pub Date64 : ℕ
Date64 = 17

abbrev pub Time32 : ℕ
Time32 = 18

abbrev pub Time64 : ℕ
Time64 = 19

abbrev pub Duration : ℕ
Duration = 20

abbrev pub Interval : ℕ
Interval = 21

abbrev pub Binary : ℕ
Binary = 22

abbrev pub FixedSizeBinary : ℕ
FixedSizeBinary = 23

abbrev pub LargeBinary : ℕ
LargeBinary = 24

abbrev pub Utf8 : ℕ
Utf8 = 25

abbrev pub LargeUtf8 : ℕ
LargeUtf8 = 26

abbrev pub List : ℕ
List = 27

abbrev pub FixedSizeList : ℕ
FixedSizeList = 28

abbrev pub LargeList : ℕ
LargeList = 29

abbrev pub Struct : ℕ
Struct = 30

abbrev pub Map : ℕ
Map = 31

abbrev pub Dictionary : ℕ
Dictionary = 32

abbrev pub Decimal : ℕ
Decimal = 33

abbrev pub Decimal32 : ℕ
Decimal32 = 34

abbrev pub Decimal64 : ℕ
Decimal64 = 35

abbrev pub Decimal256 : ℕ
Decimal256 = 36

abbrev pub Extension : ℕ
Extension = 37

abbrev pub BinaryView : ℕ
BinaryView = 38

abbrev pub Utf8View : ℕ
Utf8View = 39

abbrev pub Unknown : ℕ
Unknown = 40

abbrev pub Union : ℕ
Union = 41
