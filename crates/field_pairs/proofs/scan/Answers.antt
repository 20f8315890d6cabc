-- `scan` meets its contract: the first such byte is where the one from `i` on is. Assumes nothing.
use mathlib.Core.Path.{refl}
use native.Mathlib.Omega.{arith}
use Rattle.field_pairs.proofs.PairsLaws.{reach_stop, reach_more, reach_end}
use Rattle.field_pairs.proofs.scan.Goals as goal

pub loop-i-init : goal.loop-i-init
loop-i-init c = refl

pub returns-then-s-i : goal.returns-then-s-i
returns-then-s-i c =
    let l = c.loop-i in
    omega (arith, l.invariant, reach_stop c.args.s.now c.args.b l.i c.loop-i-test.true c.if-s-i.true)

pub loop-i-preserved : goal.loop-i-preserved
loop-i-preserved c =
    let l = c.loop-i in
    omega (arith, l.invariant, reach_more c.args.s.now c.args.b l.i c.loop-i-test.true c.if-s-i.false)

pub returns : goal.returns
returns c =
    let l = c.loop-i in
    omega (arith, l.invariant, reach_end c.args.s.now c.args.b l.i c.loop-i-test.false)
