-- `put_column` meets its contract: a chain of two writes. Assumes nothing.
use mathlib.Core.List.{[], ◌∷◌}
use Rattle.sheets.specs.Bytes.{space}
use Rattle.buffer.proofs.OverLaws.{none_yet, and_then}
use Rattle.field_line.specs.Columns.{column}
use Rattle.node.proofs.name.put_column.Goals as goal

pub returns : goal.returns
unfolding column
returns c =
    let a = c.args in
    let text = and_then a.text.now (none_yet a.at a.out.now) c.put_at-end.ensures in
    let w = and_then (space ∷ []) text c.put_byte.ensures in
    (w.place, w.holds)
