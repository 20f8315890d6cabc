-- `begin_node` meets its contract: the line is written at once (`NestedLaws`), or by `begin_any`. Assumes nothing.
use mathlib.Core.Path.{◌∙◌}
use Rattle.import_field.proofs.NestedLaws.{nested_other, nested_told}
use Rattle.import_field.proofs.begin_node.Goals as goal

pub begin_any-requires : goal.begin_any-requires
begin_any-requires c = c.requires

pub shape_of-out-in_default : goal.shape_of-out-in_default
shape_of-out-in_default c = c.begin_any.auto.out ∙ c.put_nested.auto.out

pub returns-in_default : goal.returns-in_default
returns-in_default c =
    let a = c.args in
    let n = c.put_nested in
    let b = c.begin_any in
    nested_other a.s.now a.tree a.out.now n.new.out n.result n.ensures c.in_default.is b.new.out b.result b.ensures

pub shape_of-out : goal.shape_of-out
shape_of-out c = c.put_nested.auto.out

pub returns : goal.returns
returns c =
    let a = c.args in
    let n = c.put_nested in
    nested_told a.s.now a.tree a.out.now n.new.out n.result n.ensures _ _ _ _ c.in-Some.is
