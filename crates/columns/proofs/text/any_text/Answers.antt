-- `text::any_text` meets its contract: by the column's end, and then by the test of the column. Assumes nothing.
use mathlib.Core.Path.{sym, ap, ◌∙◌}
use native.Mathlib.Omega.{arith}
use Rattle.columns.specs.TextColumns.{is_text}
use Rattle.columns.proofs.ColumnLaws.{column_there}
use Rattle.columns.proofs.FindLaws.{of_none, of_other, of_there}
use Rattle.columns.proofs.text.any_text.Goals as goal

pub column-requires : goal.column-requires
column-requires c = c.any_end.ensures

pub returns-in_err-e : goal.returns-in_err-e
returns-in_err-e c =
    let a = c.args in
    rw c.from_residual.ensures (sym (of_none is_text 32 a.s.now a.at (sym c.in_err-e.ensures)))

pub slice_bounds-is_text-count : goal.slice_bounds-is_text-count
slice_bounds-is_text-count c =
    let a = c.args in
    let k = column_there 32 a.s.now a.at _ (sym c.in_ok-e.ensures) in
    omega (arith, k.low, k.high)

pub slice_bounds-is_text-start : goal.slice_bounds-is_text-start
slice_bounds-is_text-start c =
    let a = c.args in
    let k = column_there 32 a.s.now a.at _ (sym c.in_ok-e.ensures) in
    omega (arith, k.low, k.high)

pub slice_bounds-is_text-end : goal.slice_bounds-is_text-end
slice_bounds-is_text-end c =
    let a = c.args in
    let k = column_there 32 a.s.now a.at _ (sym c.in_ok-e.ensures) in
    omega (arith, k.low, k.high)

pub returns-then-is_text : goal.returns-then-is_text
returns-then-is_text c =
    let a = c.args in
    sym (of_there is_text 32 a.s.now a.at _ (sym c.in_ok-e.ensures) (sym c.is_text.ensures ∙ c.if-is_text.true))

pub returns : goal.returns
returns c =
    let a = c.args in
    sym (of_other is_text 32 a.s.now a.at _ (sym c.in_ok-e.ensures) (sym c.is_text.ensures ∙ c.if-is_text.false))
