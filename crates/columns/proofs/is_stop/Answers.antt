-- `columns::is_stop` meets its contract. Assumes nothing.
use mathlib.Core.Path.{sym}
use native.Mathlib.Omega.{arith}
use Rattle.columns.proofs.ColumnLaws.{space_stops, not_space, other_goes_on}
use Rattle.columns.proofs.is_stop.Goals as goal

pub returns-then-b-gt32 : goal.returns-then-b-gt32
returns-then-b-gt32 c = sym (other_goes_on c.args.b (λ e. omega arith) (λ e. omega arith))

pub returns-then-b-eq32 : goal.returns-then-b-eq32
returns-then-b-eq32 c = sym (space_stops _ c.if-b-eq32.true)

pub returns : goal.returns
returns c = not_space _ c.if-b-eq32.false
