-- `read_i32` meets its contract: what `signed` gives below 2 ^ 31 fits 32 bits. Assumes nothing.
use Rattle.decimal.proofs.ColumnLaws.{signed_given}
use mir.Facts.{to_z-of_z, sfits_widen}
use mir.Val.{SFits}
use mir.Syntax.{w32, w64}
use Prim.Native.Nat.{◌^◌}
use mathlib.Core.Path.{sym}
use Rattle.decimal.proofs.read_i32.Goals as goal

pub overflow_cast-result : goal.overflow_cast-result
overflow_cast-result c =
    let s = c.args.s.now in
    let z = c.in_ok-z.z in
    let o = sym c.in_ok-z.ensures in
    let f : SFits w32 z = record { sfits = (signed_given (2 ^ 31) s z o).1 } in
    let g : SFits w64 z = sfits_widen tt f in
    rw (to_z-of_z g) f

pub returns : goal.returns
returns c =
    let s = c.args.s.now in
    let z = c.in_ok-z.z in
    let o = sym c.in_ok-z.ensures in
    let f : SFits w32 z = record { sfits = (signed_given (2 ^ 31) s z o).1 } in
    let g : SFits w64 z = sfits_widen tt f in
    rw (to_z-of_z g, to_z-of_z f) (sym o)
