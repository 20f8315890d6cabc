-- `number::any_number` meets its contract: the column from here on reads as such a number or does not. Assumes nothing.
use mathlib.Core.Path.{sym, ap, ◌∙◌}
use native.Mathlib.Omega.{arith}
use Rattle.columns.proofs.ColumnLaws.{column_there}
use Rattle.columns.proofs.NumberFindLaws.{number_none, number_bad, number_there}
use Rattle.sheets.specs.Answer.{found}
use Rattle.sheets.specs.Refusal.{bad_lines}
use Rattle.columns.proofs.number.any_number.Goals as goal

pub column-requires : goal.column-requires
column-requires c = c.number_end.ensures

pub returns-in_err-e : goal.returns-in_err-e
returns-in_err-e c =
    let a = c.args in
    rw c.from_residual.ensures (sym (number_none a.stop a.s.now a.at (sym c.in_err-e.ensures)))

pub slice_bounds-read_u64-count : goal.slice_bounds-read_u64-count
slice_bounds-read_u64-count c =
    let a = c.args in
    let k = column_there a.stop a.s.now a.at _ (sym c.in_ok-e.ensures) in
    omega (arith, k.low, k.high)

pub slice_bounds-read_u64-start : goal.slice_bounds-read_u64-start
slice_bounds-read_u64-start c =
    let a = c.args in
    let k = column_there a.stop a.s.now a.at _ (sym c.in_ok-e.ensures) in
    omega (arith, k.low, k.high)

pub slice_bounds-read_u64-end : goal.slice_bounds-read_u64-end
slice_bounds-read_u64-end c =
    let a = c.args in
    let k = column_there a.stop a.s.now a.at _ (sym c.in_ok-e.ensures) in
    omega (arith, k.low, k.high)

pub returns-in_err-n : goal.returns-in_err-n
returns-in_err-n c =
    let a = c.args in
    rw c.from_residual-in_err-n.ensures (sym (number_bad a.stop a.s.now a.at _ (sym c.in_ok-e.ensures) (sym c.in_err-n.ensures)))

pub returns : goal.returns
returns c =
    let a = c.args in
    sym (number_there a.stop a.s.now a.at _ (sym c.in_ok-e.ensures) _ (sym c.in_ok-n.ensures))
