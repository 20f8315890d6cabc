-- `interval` meets its contract: the unit's place is what the call gives. Assumes nothing.
use mathlib.Core.Path.{ap}
use Rattle.sheets.specs.Kind
use Rattle.datatypes.specs.Dtypes.{leaf_dtype}
use Rattle.datatypes.proofs.dtype.Dtype.interval.Goals as goal

pub returns : goal.returns
returns c = ap (leaf_dtype Kind.Interval) c.place.ensures
