-- `copy_part` meets its contract. The loop's invariant is `Copying`. Assumes nothing.
use Rattle.copy_part.proofs.CopyLaws.{copying_none, copying_length, copying_more, copying_can, copying_rest}
use Rattle.buffer.proofs.OverLaws.{length_over_at}
use lib.ListN.{length}
use Prim.Native.Nat.{◌-◌}
use mathlib.Core.Path.{ap, ◌∙◌}
use native.Mathlib.Omega.{arith}
use Rattle.copy_part.proofs.copy_part.Goals as goal

pub loop-i-init : goal.loop-i-init
loop-i-init c = copying_none c.requires

pub overflow_sub-end : goal.overflow_sub-end
overflow_sub-end c = c.loop-i.invariant.high

pub word8_at-requires : goal.word8_at-requires
word8_at-requires c =
    let g = c.loop-i.invariant in omega (arith, g.high, g.can.high)

pub put_word8-requires : goal.put_word8-requires
put_word8-requires c =
    let g = c.loop-i.invariant in omega (arith, g.high, g.low, g.there, g.can.room, copying_length g)

pub overflow_add-i : goal.overflow_add-i
overflow_add-i c =
    let g = c.loop-i.invariant in omega (arith, g.high, g.can.high)

pub overflow_add-j : goal.overflow_add-j
overflow_add-j c =
    let g = c.loop-i.invariant in omega (arith, g.high, g.low, g.there, g.can.room, copying_length g)

pub loop-i-smaller : goal.loop-i-smaller
loop-i-smaller c =
    let g = c.loop-i.invariant in omega (arith, g.high)

pub loop-i-preserved : goal.loop-i-preserved
loop-i-preserved c =
    let g = c.loop-i.invariant in copying_more g 8 c.word8_at.result c.put_word8.new.out (omega (arith, g.high)) c.word8_at.ensures c.put_word8.ensures

pub copy_seven-requires : goal.copy_seven-requires
copy_seven-requires c = (copying_can c.loop-i.invariant, omega (arith, c.loop-i-test.false))

pub shape_of-out : goal.shape_of-out
shape_of-out c =
    let g = c.loop-i.invariant in ap length (copying_rest g c.copy_seven.result c.copy_seven.new.out c.copy_seven.ensures).1 ∙ length_over_at _ _ _

pub returns : goal.returns
returns c = copying_rest c.loop-i.invariant c.copy_seven.result c.copy_seven.new.out c.copy_seven.ensures
