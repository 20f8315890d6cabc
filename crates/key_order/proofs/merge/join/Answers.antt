-- `join` meets its contract: where one list comes wholly before the other, merging appends. Assumes nothing.
use mathlib.Core.Path.{◌∙◌, sym}
use native.Mathlib.Omega.{arith}
use Rattle.key_order.specs.Entry.{rest_at}
use Rattle.key_order.proofs.MergeLaws.{left_then_right, right_then_left}
use Rattle.key_order.proofs.merge.join.Goals as goal

pub returns-then-all_before : goal.returns-then-all_before
returns-then-all_before c =
    let put = c.put_both.ensures in
    let all = left_then_right (rest_at c.args.text.now c.args.shared) c.args.a.now c.args.b.now c.requires.left (c.all_before.ensures c.if-all_before.true) in
    record { within = omega (arith, put.0); entries = put.1 ∙ sym all }

pub returns-then-all_before-2 : goal.returns-then-all_before-2
returns-then-all_before-2 c =
    let put = c.put_both-then-all_before-2.ensures in
    let all = right_then_left (rest_at c.args.text.now c.args.shared) c.args.a.now c.args.b.now c.requires.left (c.all_before-2.ensures c.if-all_before-2.true) in
    record { within = omega (arith, put.0); entries = put.1 ∙ sym all }
