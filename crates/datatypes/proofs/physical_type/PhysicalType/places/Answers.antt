-- `places` meets its contract: in each arm the case is known, and the definition computes there; two cases bear a type, whose place a call gives.
-- Assumes nothing.
use mathlib.Core.Path.{sym, ap, ◌∙◌}
use Rattle.datatypes.specs.PhysicalPlaces.{bearing, physical_of}
use Rattle.datatypes.proofs.physical_type.PhysicalType.places.Goals as goal

pub returns-in-Null : goal.returns-in-Null
returns-in-Null c = c.of.ensures ∙ ap physical_of (sym c.in-Null.is)

pub returns-in-Boolean : goal.returns-in-Boolean
returns-in-Boolean c = c.of-in-Boolean.ensures ∙ ap physical_of (sym c.in-Boolean.is)

pub returns-in-Primitive : goal.returns-in-Primitive
returns-in-Primitive c = c.of-in-Primitive.ensures ∙ (ap (bearing 2) c.place.ensures ∙ ap physical_of (sym c.in-Primitive.is))

pub returns-in-Binary : goal.returns-in-Binary
returns-in-Binary c = c.of-in-Binary.ensures ∙ ap physical_of (sym c.in-Binary.is)

pub returns-in-FixedSizeBinary : goal.returns-in-FixedSizeBinary
returns-in-FixedSizeBinary c = c.of-in-FixedSizeBinary.ensures ∙ ap physical_of (sym c.in-FixedSizeBinary.is)

pub returns-in-LargeBinary : goal.returns-in-LargeBinary
returns-in-LargeBinary c = c.of-in-LargeBinary.ensures ∙ ap physical_of (sym c.in-LargeBinary.is)

pub returns-in-Utf8 : goal.returns-in-Utf8
returns-in-Utf8 c = c.of-in-Utf8.ensures ∙ ap physical_of (sym c.in-Utf8.is)

pub returns-in-LargeUtf8 : goal.returns-in-LargeUtf8
returns-in-LargeUtf8 c = c.of-in-LargeUtf8.ensures ∙ ap physical_of (sym c.in-LargeUtf8.is)

pub returns-in-List : goal.returns-in-List
returns-in-List c = c.of-in-List.ensures ∙ ap physical_of (sym c.in-List.is)

pub returns-in-FixedSizeList : goal.returns-in-FixedSizeList
returns-in-FixedSizeList c = c.of-in-FixedSizeList.ensures ∙ ap physical_of (sym c.in-FixedSizeList.is)

pub returns-in-LargeList : goal.returns-in-LargeList
returns-in-LargeList c = c.of-in-LargeList.ensures ∙ ap physical_of (sym c.in-LargeList.is)

pub returns-in-Struct : goal.returns-in-Struct
returns-in-Struct c = c.of-in-Struct.ensures ∙ ap physical_of (sym c.in-Struct.is)

pub returns-in-Union : goal.returns-in-Union
returns-in-Union c = c.of-in-Union.ensures ∙ ap physical_of (sym c.in-Union.is)

pub returns-in-Map : goal.returns-in-Map
returns-in-Map c = c.of-in-Map.ensures ∙ ap physical_of (sym c.in-Map.is)

pub returns-in-Dictionary : goal.returns-in-Dictionary
returns-in-Dictionary c = c.of-in-Dictionary.ensures ∙ (ap (bearing 14) c.place-in-Dictionary.ensures ∙ ap physical_of (sym c.in-Dictionary.is))

pub returns-in-BinaryView : goal.returns-in-BinaryView
returns-in-BinaryView c = c.of-in-BinaryView.ensures ∙ ap physical_of (sym c.in-BinaryView.is)

pub returns-in-Utf8View : goal.returns-in-Utf8View
returns-in-Utf8View c = c.of-in-Utf8View.ensures ∙ ap physical_of (sym c.in-Utf8View.is)
