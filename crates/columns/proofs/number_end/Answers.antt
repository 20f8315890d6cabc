-- `columns::number_end` meets its contract. The loop's invariant: the column from `at` on ends where the one from `i` on does.
-- The measure is what is left of the length. Assumes nothing.
use mathlib.Core.Path.{refl, sym, ◌∙◌}
use Prim.Native.Nat.{◌-◌}
use native.Mathlib.Omega.{arith}
use Rattle.columns.proofs.ColumnLaws.{length_none, length_stop, length_more}
use Rattle.columns.proofs.number_end.Goals as goal

pub loop-i-init : goal.loop-i-init
loop-i-init c = refl

pub returns-then-is_stop : goal.returns-then-is_stop
returns-then-is_stop c =
    let l = c.loop-i in
    omega (arith, l.invariant, length_stop c.args.s.now l.i c.loop-i-test.true (sym c.is_stop.ensures ∙ c.if-is_stop.true))

pub loop-i-preserved : goal.loop-i-preserved
loop-i-preserved c =
    let l = c.loop-i in
    omega (arith, l.invariant, length_more c.args.s.now l.i c.loop-i-test.true (sym c.is_stop.ensures ∙ c.if-is_stop.false))

pub returns : goal.returns
returns c =
    let l = c.loop-i in
    omega (arith, l.invariant, length_none c.args.s.now l.i c.loop-i-test.false)
