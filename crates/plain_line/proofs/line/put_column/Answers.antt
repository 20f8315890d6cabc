-- `put_column` meets its contract: a chain of two writes. Assumes nothing.
use mathlib.Core.List.{[], ◌∷◌}
use Rattle.buffer.proofs.OverLaws.{none_yet, and_then}
use Rattle.field_line.specs.Columns.{column}
use Rattle.plain_line.specs.PlainLines.{column_in}
use Rattle.plain_line.proofs.line.put_column.Goals as goal

pub returns : goal.returns
unfolding column
returns c =
    let a = c.args in
    let w = and_then (32 ∷ []) (and_then (column_in a.s.now a.p) (none_yet a.at a.out.now) c.put_at-after.ensures) c.put_byte.ensures in
    (w.place, w.holds)
