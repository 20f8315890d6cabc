-- `put` meets its contract. The invariant: the first i bytes of s are written. Assumes nothing.
use mathlib.Core.Path.{ap₂, sym, ◌∙◌}
use mathlib.Core.List.{List}
use Prim.Native.Nat.{ℕ}
use native.Mathlib.Omega.{arith}
use lib.ListN.{set}
use lib.Seq.{length-take-le}
use Rattle.std.proofs.lemmas.List.{get_or-take}
use Rattle.buffer.proofs.OverLaws.{over_nothing, over_more, over_take}
use Rattle.buffer.proofs.put.Goals as goal

pub loop-i-init : goal.loop-i-init
loop-i-init c = (c.within-n.ensures, sym (over_nothing c.args.out.now))

pub loop-i-preserved : goal.loop-i-preserved
loop-i-preserved c =
    let l = c.loop-i in
    let n = c.within-n.result in
    let s = c.args.s.now in
    let k = length-take-le n s (omega (arith, l.invariant.0)) in (
      l.invariant.0,
      ap₂ (λ (m : List ℕ) (b : ℕ). set m l.i b) l.invariant.1 (get_or-take n s l.i 0 (omega (arith, k)))
          ∙ over_more s c.args.out.now l.i (omega (arith, k, l.invariant.0)) (omega (arith, k, l.invariant.0)),
    )

pub returns : goal.returns
returns c =
    let l = c.loop-i in
    let k = length-take-le c.within-n.result c.args.s.now (omega (arith, l.invariant.0)) in
    l.invariant.1 ∙ over_take _ _ l.i (omega (arith, k, l.invariant.0))
