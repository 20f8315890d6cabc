-- `crate::numbers::put_counted` meets its contract: what is written and what is left make up the ids. Assumes nothing.
use native.Mathlib.Omega.{arith}
use Rattle.put_format.proofs.CountedLaws.{counting_start, counting_more, counting_end}
use Rattle.put_format.proofs.numbers.put_counted.Goals as goal

pub loop-i-init : goal.loop-i-init
loop-i-init c =
    let p = c.put_number-end in
    counting_start c.args.count c.args.at c.requires p.result p.new.out

pub put_hex-next-requires : goal.put_hex-next-requires
put_hex-next-requires c = omega (arith, c.loop-i.invariant.room, c.loop-i.invariant.turns, c.put_number-end.ensures.1, c.requires.few, c.requires.low)

pub put_number-end-requires-in-loop-i : goal.put_number-end-requires-in-loop-i
put_number-end-requires-in-loop-i c = omega (arith, c.put_hex-next.ensures.0, c.loop-i.invariant.room, c.loop-i.invariant.turns, c.put_number-end.ensures.1, c.requires.few, c.requires.low)

pub loop-i-preserved : goal.loop-i-preserved
loop-i-preserved c =
    let a = c.args in
    let l = c.loop-i in
    let p = c.put_number-end in
    counting_more a.count a.at c.requires p.result p.new.out l.end l.i l.out l.invariant c.loop-i-test.true c.put_hex-next.result c.put_hex-next.new.out c.put_hex-next.ensures c.put_number-end-in-loop-i.result c.put_number-end-in-loop-i.new.out c.put_number-end-in-loop-i.ensures

pub returns : goal.returns
returns c =
    let a = c.args in
    let l = c.loop-i in
    let p = c.put_number-end in
    counting_end a.count a.at c.requires p.result p.new.out l.end l.i l.out l.invariant a.out.now p.ensures c.loop-i-test.false
