-- `columns::any_end` meets its contract: the first bytes hold the end or are passed, then blocks are passed, then the end is looked for.
-- Assumes nothing.
use native.Mathlib.Omega.{arith}
use Prim.Native.Nat.{◌+◌}
use Rattle.columns.proofs.ColumnLaws.{length_none, near_short, near_end, near_passed}
use Rattle.columns.proofs.any_end.Goals as goal

pub returns-then-s-at : goal.returns-then-s-at
returns-then-s-at c = omega (arith, length_none c.args.s.now c.args.at c.if-s-at.true)

pub overflow_add-here : goal.overflow_add-here
overflow_add-here c = omega (arith, c.number_end.ensures, near_short c.args.s.now c.args.at (c.args.at + c.within.result) (omega arith) (omega (arith, c.within.ensures)), c.within.ensures)

pub returns-then-here-near : goal.returns-then-here-near
returns-then-here-near c = omega (arith, c.number_end.ensures, near_end c.args.s.now c.args.at (c.args.at + c.within.result) (omega arith) (omega (arith, c.within.ensures)) (omega (arith, c.number_end.ensures)))

pub returns : goal.returns
returns c = omega (arith, c.number_end-2.ensures, c.pass_blocks.ensures.same, near_passed c.args.s.now c.args.at (c.args.at + c.within.result) (omega arith) (omega (arith, c.within.ensures)) (omega (arith, c.number_end.ensures)))
