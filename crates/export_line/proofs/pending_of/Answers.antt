-- `pending_of` meets its contract: by the test. Assumes nothing.
use mathlib.Core.Path.{sym, ap}
use Rattle.export_line.specs.Begins.{zero_pending}
use Rattle.export_line.proofs.pending_of.Goals as goal

pub returns-then-zero : goal.returns-then-zero
returns-then-zero c = ap zero_pending (sym c.if-zero.true)
