-- `put_kind` meets its contract: a chain of three writes. Assumes nothing.
use native.Mathlib.Omega.{arith}
use Rattle.sheets.specs.Number.{decimal}
use Rattle.buffer.proofs.OverLaws.{none_yet, and_then}
use Rattle.field_line.specs.Columns.{column, kind_piece}
use Rattle.field_line.proofs.LengthLaws.{number_short}
use Rattle.field_line.proofs.put_kind.Goals as goal

pub put_number-second-requires : goal.put_number-second-requires
put_number-second-requires c = omega (arith, c.put_number-first.ensures.0, number_short c.args.kind c.ranges.kind.fits, c.requires)

pub put_number-requires : goal.put_number-requires
put_number-requires c = omega (arith, c.put_number-first.ensures.0, c.put_number-second.ensures.0, number_short c.args.kind c.ranges.kind.fits, number_short c.args.p c.ranges.p.fits, c.requires)

pub returns : goal.returns
unfolding kind_piece
returns c =
    let a = c.args in
    let kind = and_then (column (decimal a.kind)) (none_yet a.at a.out.now) c.put_number-first.ensures in
    let p = and_then (column (decimal a.p)) kind c.put_number-second.ensures in
    let w = and_then (column (decimal a.q)) p c.put_number.ensures in
    (w.place, w.holds)
