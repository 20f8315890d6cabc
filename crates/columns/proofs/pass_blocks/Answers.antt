-- `columns::pass_blocks` meets its contract. The loop's invariant: no column ends before `i`. The measure is what is left of the length.
-- Assumes nothing.
use mathlib.Core.Path.{refl, sym, ◌∙◌}
use Prim.Native.Nat.{◌+◌, ◌-◌}
use native.Mathlib.Omega.{arith}
use Rattle.columns.proofs.ColumnLaws.{past_passed}
use Rattle.columns.proofs.pass_blocks.Goals as goal

pub loop-i-init : goal.loop-i-init
loop-i-init c = (c.requires, refl)

pub overflow_sub-s : goal.overflow_sub-s
overflow_sub-s c = c.loop-i.invariant.0

pub overflow_add-next : goal.overflow_add-next
overflow_add-next c = omega arith

pub slice_bounds-are_past_space-count : goal.slice_bounds-are_past_space-count
slice_bounds-are_past_space-count c = omega arith

pub slice_bounds-are_past_space-start : goal.slice_bounds-are_past_space-start
slice_bounds-are_past_space-start c = omega arith

pub slice_bounds-are_past_space-end : goal.slice_bounds-are_past_space-end
slice_bounds-are_past_space-end c = omega arith

pub returns-then-not-are_past_space : goal.returns-then-not-are_past_space
returns-then-not-are_past_space c =
    let l = c.loop-i in
    record { within = l.invariant.0; same = l.invariant.1; last = λ h. sym c.are_past_space.ensures ∙ c.if-not-are_past_space.true }

pub loop-i-smaller : goal.loop-i-smaller
loop-i-smaller c = omega arith

pub loop-i-preserved : goal.loop-i-preserved
loop-i-preserved c =
    let l = c.loop-i in
    let d = past_passed c.args.s.now l.i (l.i + 32) (omega arith) (omega arith) (sym c.are_past_space.ensures ∙ c.if-not-are_past_space.false) in
    (omega arith, l.invariant.1 ∙ d)

pub returns : goal.returns
returns c =
    let l = c.loop-i in
    record { within = l.invariant.0; same = l.invariant.1; last = λ h. absurd (omega arith) }
