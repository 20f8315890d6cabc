-- `put_long_format` meets its contract: digits that eight bytes hold, and more (`format_short`, `format_long`). Assumes nothing.
use Rattle.put_schema_leaf.proofs.PutLaws.{format_short, format_long}
use Rattle.buffer.proofs.OverLaws.{length_over_at}
use Rattle.words.proofs.WordLaws.{length_low}
use mathlib.Core.Path.{ap, ◌∙◌}
use lib.ListN.{length}
use Prim.Native.Nat.{◌-◌}
use native.Mathlib.Omega.{arith}
use Rattle.put_schema_leaf.proofs.put_long_format.Goals as goal

pub bounds-out-end : goal.bounds-out-end
bounds-out-end c = omega (arith, c.put_low-end.ensures.0, length_low c.args.len c.args.low, ap length c.put_low-end.ensures.1 ∙ length_over_at _ _ _)

pub overflow_add-result : goal.overflow_add-result
overflow_add-result c = omega (arith, c.put_low-end.ensures.0, length_low c.args.len c.args.low, ap length c.put_low-end.ensures.1 ∙ length_over_at _ _ _)

pub returns-then-len-le8 : goal.returns-then-len-le8
returns-then-len-le8 c = format_short c.args.out.now c.args.low c.args.high c.args.len c.requires.1 c.put_low-end.new.out c.put_low-end.result c.if-len-le8.true c.put_low-end.ensures

pub bounds-out-end-2 : goal.bounds-out-end-2
bounds-out-end-2 c = omega (arith, c.put_low-end-2.ensures.0, length_low (c.args.len - 8) c.args.high, ap length c.put_low-end-2.ensures.1 ∙ length_over_at _ _ _, ap length c.put_word8.ensures ∙ length_over_at _ _ _)

pub overflow_add-result-2 : goal.overflow_add-result-2
overflow_add-result-2 c = omega (arith, c.put_low-end-2.ensures.0, length_low (c.args.len - 8) c.args.high, ap length c.put_low-end-2.ensures.1 ∙ length_over_at _ _ _, ap length c.put_word8.ensures ∙ length_over_at _ _ _)

pub shape_of-out : goal.shape_of-out
shape_of-out c = ap length (format_long c.args.out.now c.args.low c.args.high c.args.len c.requires.1 c.put_word8.new.out c.put_low-end-2.new.out c.put_low-end-2.result c.if-len-le8.false c.put_word8.ensures c.put_low-end-2.ensures).1 ∙ length_over_at _ _ _

pub returns : goal.returns
returns c = format_long c.args.out.now c.args.low c.args.high c.args.len c.requires.1 c.put_word8.new.out c.put_low-end-2.new.out c.put_low-end-2.result c.if-len-le8.false c.put_word8.ensures c.put_low-end-2.ensures
