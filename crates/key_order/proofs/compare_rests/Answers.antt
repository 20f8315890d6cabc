-- `compare_rests` meets its contract: what is compared are the rests of the keys. Assumes nothing.
use mathlib.Core.Path.{◌∙◌}
use Rattle.key_order.proofs.compare_rests.Goals as goal

pub returns : goal.returns
returns c = c.compare.ensures ∙ rw (c.rest_of.ensures, c.rest_of-2.ensures)
