-- `number::any_signed` meets its contract: the column from here on reads as such a number or does not. Assumes nothing.
use mathlib.Core.Path.{sym, ap, ◌∙◌}
use native.Mathlib.Omega.{arith}
use Prim.Native.Nat.{◌^◌}
use mir.Facts.{to_z-of_z}
use mir.Syntax.{w64}
use mir.Val.{SFits}
use Rattle.decimal.proofs.ColumnLaws.{signed_given}
use Rattle.columns.specs.Columns.{part}
use Rattle.columns.proofs.ColumnLaws.{column_there}
use Rattle.columns.proofs.NumberFindLaws.{signed_none, signed_bad, signed_there}
use Rattle.sheets.specs.Answer.{found}
use Rattle.sheets.specs.Refusal.{bad_lines}
use Rattle.columns.proofs.number.any_signed.Goals as goal

pub column-requires : goal.column-requires
column-requires c = c.number_end.ensures

pub returns-in_err-e : goal.returns-in_err-e
returns-in_err-e c =
    let a = c.args in
    rw c.from_residual.ensures (sym (signed_none 32 a.s.now a.at (sym c.in_err-e.ensures)))

pub slice_bounds-read_i64-count : goal.slice_bounds-read_i64-count
slice_bounds-read_i64-count c =
    let a = c.args in
    let k = column_there 32 a.s.now a.at _ (sym c.in_ok-e.ensures) in
    omega (arith, k.low, k.high)

pub slice_bounds-read_i64-start : goal.slice_bounds-read_i64-start
slice_bounds-read_i64-start c =
    let a = c.args in
    let k = column_there 32 a.s.now a.at _ (sym c.in_ok-e.ensures) in
    omega (arith, k.low, k.high)

pub slice_bounds-read_i64-end : goal.slice_bounds-read_i64-end
slice_bounds-read_i64-end c =
    let a = c.args in
    let k = column_there 32 a.s.now a.at _ (sym c.in_ok-e.ensures) in
    omega (arith, k.low, k.high)

pub returns-in_err-z : goal.returns-in_err-z
returns-in_err-z c =
    let a = c.args in
    rw c.from_residual-in_err-z.ensures (sym (signed_bad 32 a.s.now a.at _ (sym c.in_ok-e.ensures) (sym c.in_err-z.ensures)))

pub returns : goal.returns
returns c =
    let a = c.args in
    let e = c.in_ok-e.e in
    let z = c.in_ok-z.z in
    let o = sym c.in_ok-z.ensures in
    let f : SFits w64 z = record { sfits = (signed_given (2 ^ 63) (part a.s.now a.at e) z o).1 } in
    rw (to_z-of_z f) (sym (signed_there 32 a.s.now a.at e (sym c.in_ok-e.ensures) z o))
