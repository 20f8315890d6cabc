-- `put_at` meets its contract: what the lent part holds after `put` is said of the whole by `over_at_lent`. Assumes nothing.
use mathlib.Core.Path.{refl, sym}
use Rattle.buffer.proofs.OverLaws.{over_at_lent, over_at_past}
use Rattle.buffer.proofs.put_at.Goals as goal

pub returns-then-at-out : goal.returns-then-at-out
returns-then-at-out c = (refl, over_at_lent c.args.at c.args.s.now c.args.out.now _ c.put.ensures)

pub returns-else-at-out : goal.returns-else-at-out
returns-else-at-out c = (refl, sym (over_at_past c.args.at c.args.s.now c.args.out.now c.if-at-out.false))
