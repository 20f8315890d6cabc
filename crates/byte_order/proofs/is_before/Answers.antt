-- `is_before` meets its contract: the first comes before the second exactly if the comparison says Less. Assumes nothing.
use mathlib.Core.Path.{sym, ◌∙◌}
use Rattle.byte_order.proofs.CompareLaws.{comes_before}
use Rattle.byte_order.proofs.is_before.Goals as goal

pub returns : goal.returns
returns c = c.is_lt.ensures ∙ sym (comes_before c.args.a.now c.args.b.now c.compare.result c.compare.ensures)
