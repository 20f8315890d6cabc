-- `row_below` meets its contract. Assumes nothing.
use native.Mathlib.Omega.{arith}
use Rattle.field_sheet.proofs.LevelLaws.{cost_low}
use Rattle.line_below.proofs.BelowLaws.{row_told}
use Rattle.line_below.proofs.row_below.Goals as goal

pub overflow_sub-result : goal.overflow_sub-result
overflow_sub-result c = omega (arith, c.requires, c.line_cost-cost.ensures, cost_low c.args.tree.inside c.is_extension-inside.result)

pub returns : goal.returns
returns c =
    let a = c.args in
    row_told a.tree a.l c.is_extension-inside.result c.line_cost-cost.result c.is_extension-inside.ensures c.line_cost-cost.ensures
