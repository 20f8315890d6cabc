-- `text::zeros_apart` meets its contract. The loop's invariant: no two zeros adjoin exactly if `ok` is true and none do from the byte before `k` on. The
-- measure is what is left of the length. Assumes nothing.
use mathlib.Core.Path.{refl, sym, ap, ◌∙◌}
use mathlib.Core.Bool.{Bool, ◌&&◌, not}
use Prim.Native.Nat.{◌+◌, ◌-◌}
use native.Mathlib.Omega.{arith}
use lib.ListN.{drop}
use Rattle.columns.specs.TextColumns.{zeros_apart}
use Rattle.columns.proofs.TextLaws.{apart_next, apart_end}
use Rattle.columns.proofs.text.zeros_apart.Goals as goal

pub loop-k-init : goal.loop-k-init
loop-k-init c = (refl, omega arith, refl)

pub overflow_sub-k : goal.overflow_sub-k
overflow_sub-k c = c.loop-k.invariant.1

pub bounds-s-k : goal.bounds-s-k
bounds-s-k c = omega (arith, c.loop-k.invariant.0, c.loop-k-test.true)

pub bounds-s-k-in-loop-k : goal.bounds-s-k-in-loop-k
bounds-s-k-in-loop-k c = omega (arith, c.loop-k.invariant.0, c.loop-k-test.true)

pub loop-k-smaller : goal.loop-k-smaller
loop-k-smaller c = omega (arith, c.loop-k.invariant.0, c.loop-k-test.true)

pub loop-k-preserved : goal.loop-k-preserved
loop-k-preserved c =
    let l = c.loop-k in
    let s = c.args.s.now in (
      l.invariant.0,
      omega arith,
      l.invariant.2 ∙ apart_next s l.k l.ok l.invariant.1 (omega (arith, l.invariant.0, c.loop-k-test.true))
          ∙ ap (λ (t : Bool). (l.ok && not t) && zeros_apart (drop (l.k + 1 - 1) s)) (sym c.is_zero.ensures),
    )

pub returns : goal.returns
returns c =
    let l = c.loop-k in
    sym (l.invariant.2 ∙ apart_end c.args.s.now l.k l.ok (omega (arith, l.invariant.0, c.loop-k-test.false)))
