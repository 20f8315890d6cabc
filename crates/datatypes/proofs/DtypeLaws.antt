-- What the conversions' contracts say, as functions of the case; and what a caller gets from them: the type is a scalar, whose columns are the
-- answer's. Assumes nothing.
use mathlib.Core.Path.{◌≡◌, refl}
use Rattle.std.specs.Prelude.{Option, None, Some}
use Prim.Native.Nat.{ℕ, ◌≤◌}
use native.Mathlib.Omega.{arith}
use borrow.Author.Tests.{lt-leb, le-ltb, ne_eqb}
use Rattle.sheets.specs.Refusal.{undefined_mapping}
use Rattle.sheets.specs.Answer.{Answer, refused, given}
use Rattle.sheets.specs.Field.{Scalar, ArrowDataType, scalar, nested, grouped, dictionary, extension}
use Rattle.sheets.specs.FieldSheet.{Columns, columns, of_scalar}
use Rattle.sheets.specs.Mappings.{from_integer_type, from_primitive_type}
use Rattle.sheets.proofs.Tests.{not_some, meets, every}
use Rattle.datatypes.specs.Places.{integer_place, primitive_place}
use Rattle.datatypes.specs.At.{first_at, integer_types, primitive_types}
use Rattle.datatypes.specs.Dtypes.{dtype_columns, type_columns}
use Rattle.datatypes.specs.declared.IntegerType.{IntegerType}
use Rattle.datatypes.specs.declared.PrimitiveType.{PrimitiveType}
use Rattle.datatypes.specs.declared.dtype.Dtype.{Dtype}
use Rattle.datatypes.proofs.AtLaws.{has, past}

abbrev pub integer_columns : IntegerType → Option Columns
integer_columns t = type_columns (from_integer_type (integer_place t))

abbrev pub primitive_columns : PrimitiveType → Option Columns
primitive_columns t = type_columns (from_primitive_type (primitive_place t))

abbrev pub line_of : Dtype → Option Columns
line_of d = Some (dtype_columns d)

-- where no case has the place there is nothing to convert
pub integer_undefined : (n : ℕ) → first_at integer_place n integer_types ≡ None → from_integer_type n ≡ refused undefined_mapping
integer_undefined n h = rw (lt-leb n 9 (past integer_place 10 integer_types (meets (every 10 (has integer_place integer_types)) refl) n h))

pub primitive_undefined : (n : ℕ) → first_at primitive_place n primitive_types ≡ None → from_primitive_type n ≡ refused undefined_mapping
primitive_undefined n h =
    let far : 17 ≤ n = past primitive_place 17 primitive_types (meets (every 17 (has primitive_place primitive_types)) refl) n h in
    rw (le-ltb n 5 (omega arith), ne_eqb n 5 (λ e. omega arith), lt-leb n 13 (omega arith), lt-leb n 16 (omega arith))

-- an answer that has columns is a scalar type
pub converted : (a : Answer ArrowDataType) (d : Dtype) → type_columns a ≡ Some (dtype_columns d) → (s : Scalar) × (a ≡ given (scalar s)) × (columns (of_scalar s) ≡ dtype_columns d)
converted (given (scalar s)) d h = (s, refl, cc)
converted (refused n) d h = not_some h
converted (given (nested n i t)) d h = not_some h
converted (given (grouped g fs)) d h = not_some h
converted (given (dictionary ix ordered t)) d h = not_some h
converted (given (extension n m t)) d h = not_some h
