-- `put_page_leaf` meets its contract (`leaf_line_lem`). Assumes nothing.
use mathlib.Core.Path.{refl, sym, ap, ◌∙◌}
use native.Mathlib.Omega.{arith}
use Rattle.field_leaf.proofs.LeafLaws.{leaf_told}
use Rattle.page_line.proofs.PageLaws.{short_small, leaf_line_lem}
use Rattle.page_line.proofs.put_page_leaf.Goals as goal

pub returns-in_err-kind : goal.returns-in_err-kind
returns-in_err-kind c = rw c.from_residual.ensures ((sym c.in_err-kind.ensures, refl))

pub slice_bounds-put_line-count : goal.slice_bounds-put_line-count
slice_bounds-put_line-count c =
    let k = (leaf_told c.args.s.now c.args.tree.at (sym c.in_ok-kind.ensures)) in omega (arith, k.long)

pub slice_bounds-put_line-start : goal.slice_bounds-put_line-start
slice_bounds-put_line-start c =
    let k = (leaf_told c.args.s.now c.args.tree.at (sym c.in_ok-kind.ensures)) in omega (arith, k.long)

pub slice_bounds-put_line-end : goal.slice_bounds-put_line-end
slice_bounds-put_line-end c =
    let k = (leaf_told c.args.s.now c.args.tree.at (sym c.in_ok-kind.ensures)) in omega (arith, k.high)

pub put_line-len-requires : goal.put_line-len-requires
put_line-len-requires c =
    let k = (leaf_told c.args.s.now c.args.tree.at (sym c.in_ok-kind.ensures)) in (c.level_of-level.ensures.1, short_small _ k.short)

pub overflow_add-result : goal.overflow_add-result
overflow_add-result c =
    let k = (leaf_told c.args.s.now c.args.tree.at (sym c.in_ok-kind.ensures)) in omega (arith, k.high)

pub returns : goal.returns
returns c =
    let a = c.args in
    let level = c.level_of-level.ensures in
    leaf_line_lem a.s.now a.tree a.out.now _ (leaf_told c.args.s.now c.args.tree.at (sym c.in_ok-kind.ensures)) _ _ _ level.0 level.1 c.mark_of-mark.ensures c.put_line-len.ensures
