-- How a type holds other types: by the type, by what its first line says of it, and by the column `kind` of that line. Assumes nothing.
use Rattle.std.specs.Prelude.{cond, ℕ, eqb}
use Rattle.sheets.specs.Kind
use Rattle.sheets.specs.Field.{ArrowDataType}
use Rattle.sheets.specs.FieldSheet.{Shape, of_scalar, of_nesting, of_grouping, of_dictionary, of_extension}
use Rattle.sheets.specs.FieldTrees.{type_shape}
use Rattle.sheets.specs.Mappings.{is_map}
use Rattle.nesting.specs.declared.Nesting.{Nesting}
use Rattle.nesting.specs.declared.Nesting.TheVariants as N

abbrev pub shape_nesting : Shape → Nesting
shape_nesting (of_scalar s) = N.Nothing
shape_nesting (of_nesting n) = cond (is_map n) N.Map N.List
shape_nesting (of_grouping g) = N.Fields
shape_nesting (of_dictionary ix ordered) = N.Dictionary
shape_nesting (of_extension n m) = N.Extension

abbrev pub type_nesting : ArrowDataType → Nesting
type_nesting t = shape_nesting (type_shape t)

abbrev pub kind_nesting : ℕ → Nesting
kind_nesting k =
    cond (eqb k Kind.List) N.List
    (cond (eqb k Kind.FixedSizeList) N.List
    (cond (eqb k Kind.LargeList) N.List
    (cond (eqb k Kind.Struct) N.Fields
    (cond (eqb k Kind.Map) N.Map
    (cond (eqb k Kind.Dictionary) N.Dictionary
    (cond (eqb k Kind.Extension) N.Extension
    (cond (eqb k Kind.Union) N.Fields N.Nothing)))))))
