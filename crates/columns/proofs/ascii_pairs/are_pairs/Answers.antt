-- `are_pairs` meets its contract. The loop's invariant: the block is pairs exactly if `ok` is true and pairs stand from pair k on. Assumes nothing.
use mathlib.Core.Path.{refl, sym, ap, ◌∙◌}
use mathlib.Core.Bool.{Bool, ◌&&◌}
use Prim.Native.Nat.{◌+◌, ◌-◌, ◌*◌}
use native.Mathlib.Omega.{arith}
use lib.ListN.{drop}
use Rattle.sheets.specs.Rule.{passes}
use Rattle.columns.specs.Pairs.{pairs}
use Rattle.columns.proofs.PairsLaws.{block_next, block_end}
use Rattle.columns.proofs.ascii_pairs.are_pairs.Goals as goal

pub loop-k-init : goal.loop-k-init
loop-k-init c = (omega arith, refl)

pub overflow_mul-k : goal.overflow_mul-k
overflow_mul-k c = omega arith

pub bounds-b-k : goal.bounds-b-k
bounds-b-k c = omega arith

pub overflow_mul-k-in-loop-k : goal.overflow_mul-k-in-loop-k
overflow_mul-k-in-loop-k c = omega arith

pub overflow_add-k : goal.overflow_add-k
overflow_add-k c = omega arith

pub bounds-b-k-in-loop-k : goal.bounds-b-k-in-loop-k
bounds-b-k-in-loop-k c = omega arith

pub overflow_step-k : goal.overflow_step-k
overflow_step-k c = omega arith

pub loop-k-smaller : goal.loop-k-smaller
loop-k-smaller c = omega arith

pub loop-k-preserved : goal.loop-k-preserved
loop-k-preserved c =
    let l = c.loop-k in
    let b = c.args.b.now in
    (omega arith, l.invariant.1 ∙ block_next b c.requires l.k l.ok c.loop-k-test.true ∙ ap (λ (t : Bool). (l.ok && t) && passes (pairs (drop (2 * (l.k + 1)) b))) (sym c.is_pair-ok.ensures))

pub returns : goal.returns
returns c =
    let l = c.loop-k in
    sym (l.invariant.1 ∙ block_end c.args.b.now c.requires l.k l.ok c.loop-k-test.false)
