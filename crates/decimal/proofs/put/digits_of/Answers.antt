-- `digits_of` meets its contract. The invariant: n's digits are those of m and then what the array holds from place i on; m has at most i digits. Assumes nothing.
use Rattle.decimal.proofs.WriteLaws.{decimal_start, one_more, all_written, room, shrinks}
use borrow.Author.Rules.{rules}
use native.Mathlib.Omega.{arith}
use mathlib.Core.Path.{sym, ◌∙◌}
use Rattle.decimal.proofs.put.digits_of.Goals as goal

pub loop-m-init : goal.loop-m-init
loop-m-init c = (search rules, search rules, search rules, omega (arith, c.ranges.n), decimal_start c.args.n)

pub loop-m-preserved : goal.loop-m-preserved
loop-m-preserved c =
    let l = c.loop-m in
    let r = room l.i l.m l.invariant.3 c.loop-m-test.true in
    (omega arith, omega arith, search rules, shrinks l.i l.m l.invariant.3 l.invariant.0, l.invariant.4 ∙ one_more l.bytes l.i l.m l.invariant.0 (omega arith) c.loop-m-test.true)

pub returns : goal.returns
returns c =
    let l = c.loop-m in
    (omega arith, search rules, sym (l.invariant.4 ∙ all_written l.bytes l.i l.m l.invariant.0 (omega arith) (omega arith)))
