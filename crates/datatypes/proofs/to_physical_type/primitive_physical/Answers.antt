-- `primitive_physical` meets its contract: the answer of the call, whose two cases the two definitions number alike. Assumes nothing.
use mathlib.Core.Path.{sym, ap, ◌∙◌}
use Rattle.datatypes.specs.Physical.{primitive_answer}
use Rattle.datatypes.proofs.to_physical_type.primitive_physical.Goals as goal

pub returns : goal.returns
returns c = c.in_ok-t.ensures
