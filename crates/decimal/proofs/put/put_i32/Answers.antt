-- `put_i32` meets its contract: an i32 is the same number as an i64. Assumes nothing.
use mir.Facts.{to_z-of_z, sfits_widen}
use mir.Val.{SFits}
use mir.Syntax.{w64}
use Rattle.decimal.proofs.put.put_i32.Goals as goal

pub overflow_cast-z : goal.overflow_cast-z
overflow_cast-z c =
    let f = c.ranges.z in
    rw (to_z-of_z f) (sfits_widen tt f)

pub returns : goal.returns
returns c =
    let f = c.ranges.z in
    let g : SFits w64 c.args.z = sfits_widen tt f in
    rw (to_z-of_z f, to_z-of_z g) at c.put_i64.ensures
