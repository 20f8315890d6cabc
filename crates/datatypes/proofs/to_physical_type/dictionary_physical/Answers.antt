-- `dictionary_physical` meets its contract: the index type at the place, or none, as `index_given` and `index_refused` say. Assumes nothing.
use mathlib.Core.Path.{sym, ap, ◌∙◌}
use Rattle.datatypes.proofs.PhysicalLaws.{index_given, index_refused}
use Rattle.datatypes.proofs.to_physical_type.dictionary_physical.Goals as goal

pub returns-in_err-t : goal.returns-in_err-t
returns-in_err-t c = rw c.from_residual.ensures (index_refused c.args.index (sym c.in_err-t.ensures))

pub returns : goal.returns
returns c = index_given c.args.index c.in_ok-t.t (sym c.in_ok-t.ensures)
