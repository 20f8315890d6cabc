-- `put_pair` meets its contract: a chain of three writes. Assumes nothing.
use mathlib.Core.List.{[], ◌∷◌}
use Rattle.sheets.specs.Bytes.{equals}
use Rattle.buffer.proofs.OverLaws.{none_yet, and_then}
use Rattle.field_line.proofs.ColumnLaws.{pair_pieces_lem}
use Rattle.field_line.proofs.put_pair.Goals as goal

pub returns : goal.returns
returns c =
    let a = c.args in
    let key = and_then a.key.now (none_yet a.at a.out.now) c.put_at-a.ensures in
    let sign = and_then (equals ∷ []) key c.put_byte-b.ensures in
    let w = and_then a.value.now sign c.put_at.ensures in
    rw (pair_pieces_lem a.key.now a.value.now) (w.place, w.holds)
