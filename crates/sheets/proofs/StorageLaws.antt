-- What `to_storage` gives of a type: the type in all extensions around it, where it stands in the sheet. By cases of the type. Assumes nothing.
use mathlib.Core.Bool.{Bool, true, false}
use Prim.Native.Nat.{◌≤◌}
use native.Mathlib.Omega.{arith}
use Rattle.sheets.specs.Field.{ArrowDataType, scalar, nested, grouped, dictionary, extension, type_levels}
use Rattle.sheets.specs.Mappings.{to_storage}

-- it has no more levels, and stands directly in an extension or not alike
pub storage_levels : (t : ArrowDataType) (inside : Bool) → type_levels (to_storage t) false ≤ type_levels t inside
storage_levels (scalar s) inside = omega arith
storage_levels (nested n j t) inside = omega arith
storage_levels (grouped g fs) inside = omega arith
storage_levels (dictionary ix ordered t) inside = omega arith
storage_levels (extension n m t) true = omega (arith, storage_levels t true)
storage_levels (extension n m t) false = storage_levels t true
