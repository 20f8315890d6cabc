-- `copy_leaf` meets its contract (`leaf_copied`). Assumes nothing.
use mathlib.Core.Path.{refl, sym, ◌∙◌}
use native.Mathlib.Omega.{arith}
use Rattle.field_leaf.proofs.LeafLaws.{leaf_told}
use Rattle.put_schema_leaf.proofs.PutLaws.{no_copy, no_copy_date, no_copy_room, copy_can, leaf_copied}
use Rattle.put_schema_leaf.proofs.copy_leaf.Goals as goal

pub returns-then-not-is_copied : goal.returns-then-not-is_copied
returns-then-not-is_copied c =
    let a = c.args in
    (no_copy_date a.s.now a.at a.out.now _ _ _ _ c.in_ok-kind.ensures a.dates (sym c.is_copied.ensures ∙ c.if-not-is_copied.true), refl)

pub overflow_add-next : goal.overflow_add-next
overflow_add-next c = omega (arith, (leaf_told c.args.s.now c.args.at (sym c.in_ok-kind.ensures)).high)

pub overflow_sub-next : goal.overflow_sub-next
overflow_sub-next c =
    let k = (leaf_told c.args.s.now c.args.at (sym c.in_ok-kind.ensures)) in omega (arith, k.long, k.begins)

pub returns-then-out-next : goal.returns-then-out-next
returns-then-out-next c =
    let a = c.args in (no_copy_room a.s.now a.at a.out.now _ _ _ _ c.in_ok-kind.ensures a.dates c.if-out-next.true, refl)

pub copy_part-len-requires : goal.copy_part-len-requires
copy_part-len-requires c = copy_can (leaf_told c.args.s.now c.args.at (sym c.in_ok-kind.ensures)) c.args.out.now c.if-out-next.false

pub returns : goal.returns
returns c =
    let a = c.args in
    leaf_copied (leaf_told c.args.s.now c.args.at (sym c.in_ok-kind.ensures)) a.out.now a.dates (sym c.is_copied.ensures ∙ c.if-not-is_copied.false) c.copy_part-len.new.out c.copy_part-len.result c.copy_part-len.ensures
