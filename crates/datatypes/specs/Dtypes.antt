-- What a conversion answers, in the columns of a field sheet's line. Assumes nothing.
use Rattle.std.specs.Prelude.{ℕ, Option, None, Some}
use Rattle.sheets.specs.Answer.{Answer, refused, given}
use Rattle.sheets.specs.Field.{ArrowDataType, scalar, nested, grouped, dictionary, extension}
use Rattle.sheets.specs.FieldSheet.{Columns, columns, of_scalar, no_text}
use Rattle.sheets.specs.Kind
use Rattle.datatypes.specs.Places.{interval_place}
use Rattle.datatypes.specs.declared.units.IntervalUnit.{IntervalUnit}
use Rattle.datatypes.specs.declared.dtype.Dtype.{Dtype}

-- a type that a kind and a unit tell
abbrev pub leaf_dtype : ℕ → ℕ → Dtype
leaf_dtype k u = record { kind = k; p = u; q = 0 }

abbrev pub interval_dtype : IntervalUnit → Dtype
interval_dtype u = leaf_dtype Kind.Interval (interval_place u)

-- "unused texts `~`"
abbrev pub dtype_columns : Dtype → Columns
dtype_columns d = record { kind = d.kind; p = d.p; q = d.q; text = no_text; more = no_text }

-- the columns of the one line of a type that has no lines below
abbrev pub type_columns : Answer ArrowDataType → Option Columns
type_columns (refused n) = None
type_columns (given (scalar s)) = Some (columns (of_scalar s))
type_columns (given (nested n i t)) = None
type_columns (given (grouped g fs)) = None
type_columns (given (dictionary ix ordered t)) = None
type_columns (given (extension n m t)) = None
