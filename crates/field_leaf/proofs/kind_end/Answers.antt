-- `kind_end` meets its contract. Assumes nothing.
use native.Mathlib.Omega.{arith}
use Rattle.field_leaf.proofs.KindLaws.{one_end, two_end}
use Rattle.field_leaf.proofs.kind_end.Goals as goal

pub returns-then-s-at-eq32 : goal.returns-then-s-at-eq32
returns-then-s-at-eq32 c = (one_end c.args.s.now c.args.at c.if-s-at-eq32.true, omega arith, omega arith)

pub returns : goal.returns
returns c = (two_end c.args.s.now c.args.at c.if-s-at-eq32.false, omega arith, omega arith)
