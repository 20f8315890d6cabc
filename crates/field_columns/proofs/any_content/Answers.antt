-- `any_content` meets its contract: by the column's end, and then by the test of the column. Assumes nothing.
use mathlib.Core.Path.{sym, ◌∙◌}
use native.Mathlib.Omega.{arith}
use Rattle.field_columns.specs.FieldColumns.{is_content}
use Rattle.columns.proofs.ColumnLaws.{column_there}
use Rattle.columns.proofs.FindLaws.{of_none, of_other, of_there}
use Rattle.field_columns.proofs.any_content.Goals as goal

pub column-requires : goal.column-requires
column-requires c = c.any_end.ensures

pub returns-in_err-e : goal.returns-in_err-e
returns-in_err-e c =
    let a = c.args in
    rw c.from_residual.ensures (sym (of_none (is_content a.content) 32 a.s.now a.at (sym c.in_err-e.ensures)))

pub slice_bounds-is_content-count : goal.slice_bounds-is_content-count
slice_bounds-is_content-count c =
    let a = c.args in
    let k = column_there 32 a.s.now a.at _ (sym c.in_ok-e.ensures) in
    omega (arith, k.low, k.high)

pub slice_bounds-is_content-start : goal.slice_bounds-is_content-start
slice_bounds-is_content-start c =
    let a = c.args in
    let k = column_there 32 a.s.now a.at _ (sym c.in_ok-e.ensures) in
    omega (arith, k.low, k.high)

pub slice_bounds-is_content-end : goal.slice_bounds-is_content-end
slice_bounds-is_content-end c =
    let a = c.args in
    let k = column_there 32 a.s.now a.at _ (sym c.in_ok-e.ensures) in
    omega (arith, k.low, k.high)

pub returns-then-is_content : goal.returns-then-is_content
returns-then-is_content c =
    let a = c.args in
    sym (of_there (is_content a.content) 32 a.s.now a.at _ (sym c.in_ok-e.ensures) (sym c.is_content.ensures ∙ c.if-is_content.true))

pub returns : goal.returns
returns c =
    let a = c.args in
    sym (of_other (is_content a.content) 32 a.s.now a.at _ (sym c.in_ok-e.ensures) (sym c.is_content.ensures ∙ c.if-is_content.false))
