-- `put_number` meets its contract: a chain of two writes. Assumes nothing.
use mathlib.Core.List.{[], ◌∷◌}
use native.Mathlib.Omega.{arith}
use Rattle.sheets.specs.Bytes.{space}
use Rattle.sheets.specs.Number.{decimal}
use Rattle.buffer.proofs.OverLaws.{none_yet, and_then}
use Rattle.decimal.proofs.WriteLaws.{decimal_short}
use Rattle.field_line.specs.Columns.{column}
use Rattle.field_line.proofs.put_number.Goals as goal

pub put_byte-requires : goal.put_byte-requires
put_byte-requires c = omega (arith, c.put_u64-after.ensures.0, decimal_short c.args.n c.ranges.n.fits, c.requires)

pub returns : goal.returns
unfolding column
returns c =
    let a = c.args in
    let e = c.put_u64-after.ensures in
    let digits = and_then (decimal a.n) (none_yet a.at a.out.now) (e.0, e.1) in
    let w = and_then (space ∷ []) digits c.put_byte.ensures in
    (w.place, w.holds)
