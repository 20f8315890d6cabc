-- `put_hex` meets its contract: what the lent part holds after `put_digits` is said of the whole by `over_at_lent`. Assumes nothing.
use mathlib.Core.Path.{sym}
use native.Mathlib.Omega.{arith}
use Rattle.sheets.specs.Text.{hex}
use Rattle.buffer.proofs.OverLaws.{over_at_lent, over_at_past}
use Rattle.hexadecimal.proofs.PartLaws.{length_hex}
use Rattle.hexadecimal.proofs.put.put_hex.Goals as goal

pub overflow_add-end : goal.overflow_add-end
overflow_add-end c = omega (arith, length_hex c.args.s.now)

pub returns-then-at-out : goal.returns-then-at-out
returns-then-at-out c = (omega (arith, length_hex c.args.s.now), over_at_lent c.args.at (hex c.args.s.now) c.args.out.now _ c.put_digits.ensures)

pub returns-else-at-out : goal.returns-else-at-out
returns-else-at-out c = (omega (arith, length_hex c.args.s.now), sym (over_at_past c.args.at (hex c.args.s.now) c.args.out.now c.if-at-out.false))
