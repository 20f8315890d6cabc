-- `blocks_from` meets its contract. The loop's invariant: the pairs from `at` on end where those from i on do. Assumes nothing.
use mathlib.Core.Path.{refl, sym, ◌∙◌}
use Prim.Native.Nat.{◌-◌}
use native.Mathlib.Omega.{arith}
use Rattle.columns.proofs.PairsLaws.{block_size, block_passed}
use Rattle.columns.proofs.ascii_pairs.blocks_from.Goals as goal

pub loop-i-init : goal.loop-i-init
loop-i-init c = (c.requires, refl)

pub overflow_sub-s : goal.overflow_sub-s
overflow_sub-s c = omega arith

pub overflow_add-next : goal.overflow_add-next
overflow_add-next c = omega arith

pub slice_bounds-are_pairs-count : goal.slice_bounds-are_pairs-count
slice_bounds-are_pairs-count c = omega arith

pub slice_bounds-are_pairs-start : goal.slice_bounds-are_pairs-start
slice_bounds-are_pairs-start c = omega arith

pub slice_bounds-are_pairs-end : goal.slice_bounds-are_pairs-end
slice_bounds-are_pairs-end c = omega arith

pub are_pairs-requires : goal.are_pairs-requires
are_pairs-requires c = block_size c.args.s.now c.loop-i.i (omega arith)

pub returns-then-not-are_pairs : goal.returns-then-not-are_pairs
returns-then-not-are_pairs c =
    let l = c.loop-i in
    record { within = l.invariant.0; same = l.invariant.1; last = λ h. sym c.are_pairs.ensures ∙ c.if-not-are_pairs.true }

pub loop-i-smaller : goal.loop-i-smaller
loop-i-smaller c = omega arith

pub loop-i-preserved : goal.loop-i-preserved
loop-i-preserved c =
    let s = c.args.s.now in
    let l = c.loop-i in
    (omega arith, l.invariant.1 ∙ block_passed s l.i (omega arith) (sym c.are_pairs.ensures ∙ c.if-not-are_pairs.false))

pub returns : goal.returns
returns c =
    let l = c.loop-i in
    record { within = l.invariant.0; same = l.invariant.1; last = λ h. absurd (omega arith) }
