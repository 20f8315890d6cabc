-- `put_low` meets its contract. The loop's invariant is `Lowering`. Assumes nothing.
use mathlib.Core.Path.{refl}
use Prim.Native.Nat.{◌-◌}
use native.Mathlib.Omega.{arith}
use Rattle.put_schema_leaf.proofs.PutLaws.{lowering_none, lowering_length, lowering_more, lowering_all}
use Rattle.put_schema_leaf.proofs.put_low.Goals as goal

pub overflow_add-end : goal.overflow_add-end
overflow_add-end c = omega (arith, c.requires.1)

pub loop-i-init : goal.loop-i-init
loop-i-init c = lowering_none c.requires.1 c.requires.0 refl

pub put_word2-requires : goal.put_word2-requires
put_word2-requires c =
    let g = c.loop-i.invariant in omega (arith, g.even, g.high, g.ends, g.room, lowering_length g)

pub overflow_add-i : goal.overflow_add-i
overflow_add-i c =
    let g = c.loop-i.invariant in omega (arith, g.even, g.high, g.ends, g.room)

pub loop-i-smaller : goal.loop-i-smaller
loop-i-smaller c =
    let g = c.loop-i.invariant in omega (arith, g.even, g.high)

pub loop-i-preserved : goal.loop-i-preserved
loop-i-preserved c =
    let g = c.loop-i.invariant in lowering_more g c.put_word2.new.out c.loop-i-test.true c.put_word2.ensures

pub shape_of-out : goal.shape_of-out
shape_of-out c = lowering_length c.loop-i.invariant

pub returns : goal.returns
returns c = lowering_all c.loop-i.invariant c.loop-i-test.false
