-- `inner_type` meets its contract, by whether the line is a list's. Assumes nothing.
use Rattle.picked_types.proofs.PickLaws.{inner_undefined, inner_tree, inner_picked}
use Rattle.picked_types.proofs.inner.inner_type.Goals as goal

pub returns-then-not-has_inner : goal.returns-then-not-has_inner
returns-then-not-has_inner c = λ at k i t f. inner_undefined f k c.nesting_of.ensures c.has_inner.ensures (c.if-not-has_inner.true)

pub field_line_at-line-requires : goal.field_line_at-line-requires
field_line_at-line-requires c =
    let p = c.requires in inner_tree p.1.2 p.1.3 c.nesting_of.ensures c.has_inner.ensures (c.if-not-has_inner.false)

pub returns : goal.returns
returns c = λ at k i t f. inner_picked f k c.nesting_of.ensures c.has_inner.ensures (c.if-not-has_inner.false) c.field_line_at-line.ensures
