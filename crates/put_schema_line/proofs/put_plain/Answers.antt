-- `put_plain` meets its contract: the bytes of the word are the tail but for its last byte; where no byte is lent it is counted. Assumes nothing.
use native.Mathlib.Omega.{arith}
use mathlib.Core.Path.{refl}
use Rattle.put_schema_line.proofs.LineLaws.{plain_put, plain_counted}
use Rattle.put_schema_line.proofs.put_plain.Goals as goal

pub overflow_add-result : goal.overflow_add-result
overflow_add-result c = omega (arith, c.requires.low)

pub returns-then-out-eq0 : goal.returns-then-out-eq0
returns-then-out-eq0 c =
    let a = c.args in
    let h = c.requires in
    plain_counted a.n h.flags h.children h.dictionary _ refl a.at a.out.now c.if-out-eq0.true

pub put_word8-requires : goal.put_word8-requires
put_word8-requires c = omega (arith, c.requires.room c.if-out-eq0.false)

pub put_byte-requires : goal.put_byte-requires
put_byte-requires c = omega (arith, c.requires.low)

pub returns : goal.returns
returns c =
    let a = c.args in
    let h = c.requires in
    plain_put a.n h.flags h.children h.dictionary _ refl a.at c.put_byte.result a.out.now c.put_word8.new.out c.put_byte.new.out c.put_word8.ensures c.put_byte.ensures
