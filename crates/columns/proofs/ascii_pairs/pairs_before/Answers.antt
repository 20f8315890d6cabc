-- `pairs_before` meets its contract. The loop's invariant: the pairs from `at` on end where those from i on do. Assumes nothing.
use mathlib.Core.Path.{refl, sym, ◌∙◌}
use Prim.Native.Nat.{◌-◌}
use native.Mathlib.Omega.{arith}
use Rattle.columns.proofs.PairsLaws.{pairs_few, pairs_other, pairs_more}
use Rattle.columns.proofs.ascii_pairs.pairs_before.Goals as goal

pub loop-i-init : goal.loop-i-init
loop-i-init c = (c.requires.0, refl)

pub overflow_sub-end : goal.overflow_sub-end
overflow_sub-end c = omega arith

pub bounds-s-i : goal.bounds-s-i
bounds-s-i c = omega arith

pub overflow_add-i : goal.overflow_add-i
overflow_add-i c = omega arith

pub bounds-s-i-in-loop-i : goal.bounds-s-i-in-loop-i
bounds-s-i-in-loop-i c = omega arith

pub returns-then-not-is_pair : goal.returns-then-not-is_pair
returns-then-not-is_pair c =
    let l = c.loop-i in
    omega (arith, l.invariant.1, pairs_other c.args.s.now l.i c.args.end (omega arith) c.requires.1 (sym c.is_pair.ensures ∙ c.if-not-is_pair.true))

pub overflow_add-i-in-loop-i : goal.overflow_add-i-in-loop-i
overflow_add-i-in-loop-i c = omega arith

pub loop-i-smaller : goal.loop-i-smaller
loop-i-smaller c = omega arith

pub loop-i-preserved : goal.loop-i-preserved
loop-i-preserved c =
    let l = c.loop-i in
    (omega arith, l.invariant.1 ∙ pairs_more c.args.s.now l.i c.args.end (omega arith) c.requires.1 (sym c.is_pair.ensures ∙ c.if-not-is_pair.false))

pub returns : goal.returns
returns c =
    let l = c.loop-i in
    omega (arith, l.invariant.1, pairs_few c.args.s.now l.i c.args.end (omega arith) c.requires.1)
