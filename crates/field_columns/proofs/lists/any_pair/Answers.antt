-- `lists::any_pair` meets its contract: by the part's end, and then by the key's. Assumes nothing.
use mathlib.Core.Path.{sym}
use native.Mathlib.Omega.{arith}
use Rattle.sheets.proofs.PartLaws.{part_ends}
use Rattle.field_columns.proofs.PairLaws.{key_told}
use Rattle.field_columns.proofs.GoingLaws.{key_within}
use Rattle.field_columns.proofs.PairAtLaws.{pair_none, pair_there}
use Rattle.field_columns.proofs.lists.any_pair.Goals as goal

pub slice_bounds-key_end-count : goal.slice_bounds-key_end-count
slice_bounds-key_end-count c = omega (arith, (part_ends c.args.c.now c.args.at c.part_end-end.result c.requires c.part_end-end.ensures).low)

pub slice_bounds-key_end-start : goal.slice_bounds-key_end-start
slice_bounds-key_end-start c = omega (arith, (part_ends c.args.c.now c.args.at c.part_end-end.result c.requires c.part_end-end.ensures).low)

pub slice_bounds-key_end-end : goal.slice_bounds-key_end-end
slice_bounds-key_end-end c = omega (arith, (part_ends c.args.c.now c.args.at c.part_end-end.result c.requires c.part_end-end.ensures).high)

pub returns-in_err-k : goal.returns-in_err-k
returns-in_err-k c =
    let a = c.args in
    rw c.from_residual.ensures (sym (pair_none a.c.now a.at _ c.part_end-end.ensures (sym c.in_err-k.ensures)))

pub overflow_add-result : goal.overflow_add-result
overflow_add-result c =
    let t = key_told _ _ (sym c.in_ok-k.ensures) in
    omega (arith, key_within c.args.c.now c.args.at _ (part_ends c.args.c.now c.args.at c.part_end-end.result c.requires c.part_end-end.ensures) _ t, (part_ends c.args.c.now c.args.at c.part_end-end.result c.requires c.part_end-end.ensures).high)

pub returns : goal.returns
returns c =
    let a = c.args in
    sym (pair_there a.c.now a.at _ c.part_end-end.ensures _ (sym c.in_ok-k.ensures))
