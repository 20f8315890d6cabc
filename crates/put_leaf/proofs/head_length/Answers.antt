-- `head_length` meets its contract: a kind has one digit or two (`size_short`, `size_long`). Assumes nothing.
use native.Mathlib.Omega.{arith}
use Rattle.put_leaf.proofs.PutLaws.{size_short, size_long}
use Rattle.put_leaf.proofs.head_length.Goals as goal

pub returns-then-kind-lt10 : goal.returns-then-kind-lt10
returns-then-kind-lt10 c = (size_short c.args.kind c.if-kind-lt10.true, omega arith)

pub returns : goal.returns
returns c = (size_long c.args.kind c.if-kind-lt10.false c.requires, omega arith)
