-- `storage_line` meets its contract. The measure is that of a line with its levels left: it falls as it does for every walk (`line_measure`). Assumes nothing.
use native.Mathlib.Omega.{arith}
use Rattle.storage_line.proofs.StorageLaws.{storage_here, inner_tree, inner_type, cost_fits, inner_smaller, passed_few, storage_inside}
use Rattle.storage_line.proofs.+storage_line.Goals as goal

pub returns-then-first-ne-EXTENSION : goal.returns-then-first-ne-EXTENSION
returns-then-first-ne-EXTENSION t c =
    let a = c.args in storage_here a.tree c.requires.1 c.if-first-ne-EXTENSION.true

pub field_line_at-inner-requires : goal.field_line_at-inner-requires
field_line_at-inner-requires t c =
    let a = c.args in inner_tree a.tree c.requires.1 c.if-first-ne-EXTENSION.false c.requires.0

pub overflow_sub-below : goal.overflow_sub-below
overflow_sub-below t c =
    let a = c.args in cost_fits a.tree c.requires.1 c.if-first-ne-EXTENSION.false _ c.line_cost-cost.ensures c.requires.0

pub storage_line-found-requires : goal.storage_line-found-requires
storage_line-found-requires t c =
    let a = c.args in
    let k = c.requires.1 in
    let e = c.if-first-ne-EXTENSION.false in
    let h = c.requires.0 in
    (omega (arith, c.decreases, inner_smaller a.tree k e _ c.line_cost-cost.ensures h), (inner_type a.tree k e _ c.line_cost-cost.ensures h, c.field_line_at-inner.ensures))

pub overflow_add-result : goal.overflow_add-result
overflow_add-result t c = omega (arith, passed_few c.args.tree c.requires.1 c.if-first-ne-EXTENSION.false _ c.line_cost-cost.ensures c.storage_line-found.result c.storage_line-found.ensures c.requires.0)

pub returns : goal.returns
returns t c = storage_inside c.args.tree c.requires.1 c.if-first-ne-EXTENSION.false _ c.line_cost-cost.ensures c.storage_line-found.result c.storage_line-found.ensures
