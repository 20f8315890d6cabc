-- The numbers of document 01 for a physical type: its place, "from 0 in declaration order", and that of the type that it carries. Assumes nothing.
use Rattle.std.specs.Prelude.{ℕ}
use Rattle.sheets.specs.Mappings.{PhysicalType as HostPhysical}
use Rattle.sheets.specs.PhysicalType as PhysicalPlace
use Rattle.datatypes.specs.Places.{integer_place, primitive_place}
use Rattle.datatypes.specs.declared.physical_type.PhysicalType.{PhysicalType}
use Rattle.datatypes.specs.declared.physical_type.PhysicalType.TheVariants as PhysicalTypes
use Rattle.datatypes.specs.declared.physical_type.Places.{Places}

-- "the place in `PhysicalType` and that of the inner type"
abbrev pub bearing : ℕ → ℕ → HostPhysical
bearing n i = record { place = n; inner = i }

-- what the host gets, as those numbers
abbrev pub places_answer : Places → HostPhysical
places_answer p = bearing p.place p.inner

-- a physical type that carries no other: "the second 0 if there is none"
abbrev bare : ℕ → HostPhysical
bare n = bearing n 0

-- the numbers of each case
abbrev pub physical_of : PhysicalType → HostPhysical
physical_of PhysicalTypes.Null = bare PhysicalPlace.Null
physical_of PhysicalTypes.Boolean = bare PhysicalPlace.Boolean
physical_of (PhysicalTypes.Primitive t) = bearing PhysicalPlace.Primitive (primitive_place t)
physical_of PhysicalTypes.Binary = bare PhysicalPlace.Binary
physical_of PhysicalTypes.FixedSizeBinary = bare PhysicalPlace.FixedSizeBinary
physical_of PhysicalTypes.LargeBinary = bare PhysicalPlace.LargeBinary
physical_of PhysicalTypes.Utf8 = bare PhysicalPlace.Utf8
physical_of PhysicalTypes.LargeUtf8 = bare PhysicalPlace.LargeUtf8
physical_of PhysicalTypes.List = bare PhysicalPlace.List
physical_of PhysicalTypes.FixedSizeList = bare PhysicalPlace.FixedSizeList
physical_of PhysicalTypes.LargeList = bare PhysicalPlace.LargeList
physical_of PhysicalTypes.Struct = bare PhysicalPlace.Struct
physical_of PhysicalTypes.Union = bare PhysicalPlace.Union
physical_of PhysicalTypes.Map = bare PhysicalPlace.Map
physical_of (PhysicalTypes.Dictionary t) = bearing PhysicalPlace.Dictionary (integer_place t)
physical_of PhysicalTypes.BinaryView = bare PhysicalPlace.BinaryView
physical_of PhysicalTypes.Utf8View = bare PhysicalPlace.Utf8View
