-- `field_line_at` meets its contract: the line that stands here has its columns where they are found. Assumes nothing.
use native.Mathlib.Omega.{arith}
use Rattle.read_field_line.proofs.KnownLaws.{has_type, has_own, children_known, children_number, line_known}
use Rattle.read_field_line.proofs.field_line_at.Goals as goal

pub known_type-t-requires : goal.known_type-t-requires
known_type-t-requires c = has_type c.args.s.now c.args.at c.requires

pub known_own-o-requires : goal.known_own-o-requires
known_own-o-requires c = has_own c.args.s.now c.args.at c.requires c.known_type-t.ensures

pub number_at-children-requires : goal.number_at-children-requires
number_at-children-requires c = children_number c.args.s.now c.args.at c.requires c.known_type-t.ensures c.known_own-o.ensures (omega arith)

pub overflow_add-result : goal.overflow_add-result
overflow_add-result c = omega (arith, (children_known c.args.s.now c.args.at c.requires c.known_type-t.ensures c.known_own-o.ensures c.number_at-children.ensures.0).high)

pub returns : goal.returns
returns c = line_known c.args.s.now c.args.at c.requires c.known_type-t.ensures c.known_own-o.ensures c.number_at-children.ensures.0 c.number_at-children.ensures.1
