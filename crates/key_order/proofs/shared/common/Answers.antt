-- `common` meets its contract. The invariant: the first `i` bytes are the same; equal words are four more. Assumes nothing.
use mathlib.Core.Path.{refl}
use borrow.Author.Rules.{rules}
use Rattle.key_order.proofs.SharedLaws.{four_more}
use Rattle.key_order.proofs.shared.common.Goals as goal

pub loop-i-init : goal.loop-i-init
loop-i-init c = (search rules, refl)

pub returns-then-b-i : goal.returns-then-b-i
returns-then-b-i c = c.loop-i.invariant

pub returns-then-word4_at : goal.returns-then-word4_at
returns-then-word4_at c = c.loop-i.invariant

pub loop-i-preserved : goal.loop-i-preserved
loop-i-preserved c =
    let a = c.args in
    let x = c.word4_at.ensures in
    let y = c.word4_at-in-loop-i.ensures in
    (search rules, four_more a.a.now a.b.now c.loop-i.i _ _ (search rules) (search rules) x y (search rules) c.loop-i.invariant.1)

pub returns : goal.returns
returns c = c.loop-i.invariant
