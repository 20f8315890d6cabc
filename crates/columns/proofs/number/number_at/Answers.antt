-- `number::number_at` meets its contract. The loop's invariant: `v` is the value of the digits before `i`, and digits stand from `i` to the column's
-- end, whose byte is below them. The measure is what is left of the column. Assumes nothing.
use mathlib.Core.Path.{sym, subst}
use Prim.Native.Nat.{ℕ, ◌+◌, ◌*◌, ◌-◌}
use native.Mathlib.Omega.{arith}
use Rattle.columns.proofs.NumberAtLaws.{Reading, reading_none, reading_within, reading_less, reading_more, reading_small, reading_all}
use Rattle.columns.proofs.number.number_at.Goals as goal

pub loop-i-init : goal.loop-i-init
loop-i-init c = (c.requires, reading_none c.args.s.now c.args.at c.requires)

pub bounds-s-i : goal.bounds-s-i
bounds-s-i c =
    let l = c.loop-i in reading_within _ _ l.invariant.0 l.i l.v l.invariant.1

pub overflow_mul-v : goal.overflow_mul-v
overflow_mul-v c =
    let l = c.loop-i in omega (arith, reading_small _ _ l.invariant.0 l.i l.v l.invariant.1 c.loop-i-test.true)

pub bounds-s-i-in-loop-i : goal.bounds-s-i-in-loop-i
bounds-s-i-in-loop-i c =
    let l = c.loop-i in reading_within _ _ l.invariant.0 l.i l.v l.invariant.1

pub overflow_sub-s : goal.overflow_sub-s
overflow_sub-s c = c.loop-i-test.true

pub overflow_add-v : goal.overflow_add-v
overflow_add-v c =
    let l = c.loop-i in omega (arith, c.wide.ensures.0, reading_small _ _ l.invariant.0 l.i l.v l.invariant.1 c.loop-i-test.true)

pub overflow_add-i : goal.overflow_add-i
overflow_add-i c =
    let l = c.loop-i in omega (arith, reading_within _ _ l.invariant.0 l.i l.v l.invariant.1, c.ranges)

pub loop-i-smaller : goal.loop-i-smaller
loop-i-smaller c =
    let l = c.loop-i in omega (arith, reading_less _ _ l.invariant.0 l.i l.v l.invariant.1 c.loop-i-test.true)

pub loop-i-preserved : goal.loop-i-preserved
loop-i-preserved c =
    let a = c.args in
    let l = c.loop-i in (
      l.invariant.0,
      subst (λ (d : ℕ). Reading a.s.now a.at l.invariant.0.0 (l.i + 1) (l.v * 10 + d)) (sym c.wide.ensures.0)
          (reading_more a.s.now a.at l.invariant.0 l.i l.v l.invariant.1 c.loop-i-test.true),
    )

pub returns : goal.returns
returns c =
    let l = c.loop-i in reading_all _ _ l.invariant.0 l.i l.v l.invariant.1 (omega (arith, c.loop-i-test.false))
