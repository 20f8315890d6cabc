-- `lists::are_pairs` meets its contract. The loop's invariant: the pairs are read and in order up to `end` (`Going`). Assumes nothing.
use mathlib.Core.Path.{sym, ◌∙◌}
use native.Mathlib.Omega.{arith}
use Rattle.field_columns.proofs.GoingLaws.{first_bad, first_at, going_all, next_bad, next_low, next_mid, next_high, next_disorder, next_more}
use Rattle.field_columns.proofs.lists.are_pairs.Goals as goal

pub pair_at-requires : goal.pair_at-requires
pair_at-requires c = omega arith

pub returns-in_default : goal.returns-in_default
returns-in_default c = sym (first_bad c.args.c.now (sym c.pair_at.ensures ∙ c.in_default.is))

pub loop-end-init : goal.loop-end-init
loop-end-init c = first_at c.args.c.now _ _ (sym c.pair_at.ensures ∙ c.in-Some.is)

pub overflow_add-next : goal.overflow_add-next
overflow_add-next c = omega arith

pub pair_at-requires-in-loop-end : goal.pair_at-requires-in-loop-end
pair_at-requires-in-loop-end c = omega arith

pub returns-in_default-pair_at : goal.returns-in_default-pair_at
returns-in_default-pair_at c = sym (next_bad c.loop-end.invariant c.loop-end-test.true (sym c.pair_at-in-loop-end.ensures ∙ c.in_default-pair_at.is))

pub slice_bounds-is_before-count : goal.slice_bounds-is_before-count
slice_bounds-is_before-count c = c.loop-end.invariant.low

pub slice_bounds-is_before-start : goal.slice_bounds-is_before-start
slice_bounds-is_before-start c = omega (arith, c.loop-end.invariant.low, c.loop-end.invariant.mid, c.loop-end.invariant.high)

pub slice_bounds-is_before-end : goal.slice_bounds-is_before-end
slice_bounds-is_before-end c = omega (arith, c.loop-end.invariant.low, c.loop-end.invariant.mid, c.loop-end.invariant.high)

pub slice_bounds-is_before-count-in-loop-end : goal.slice_bounds-is_before-count-in-loop-end
slice_bounds-is_before-count-in-loop-end c = omega (arith, next_low c.loop-end.invariant c.loop-end-test.true _ _ (sym c.pair_at-in-loop-end.ensures ∙ c.in-Some-pair_at.is), next_mid c.loop-end.invariant c.loop-end-test.true _ _ (sym c.pair_at-in-loop-end.ensures ∙ c.in-Some-pair_at.is), next_high c.loop-end.invariant c.loop-end-test.true _ _ (sym c.pair_at-in-loop-end.ensures ∙ c.in-Some-pair_at.is))

pub slice_bounds-is_before-start-in-loop-end : goal.slice_bounds-is_before-start-in-loop-end
slice_bounds-is_before-start-in-loop-end c = omega (arith, next_low c.loop-end.invariant c.loop-end-test.true _ _ (sym c.pair_at-in-loop-end.ensures ∙ c.in-Some-pair_at.is), next_mid c.loop-end.invariant c.loop-end-test.true _ _ (sym c.pair_at-in-loop-end.ensures ∙ c.in-Some-pair_at.is), next_high c.loop-end.invariant c.loop-end-test.true _ _ (sym c.pair_at-in-loop-end.ensures ∙ c.in-Some-pair_at.is))

pub slice_bounds-is_before-end-in-loop-end : goal.slice_bounds-is_before-end-in-loop-end
slice_bounds-is_before-end-in-loop-end c = omega (arith, next_low c.loop-end.invariant c.loop-end-test.true _ _ (sym c.pair_at-in-loop-end.ensures ∙ c.in-Some-pair_at.is), next_mid c.loop-end.invariant c.loop-end-test.true _ _ (sym c.pair_at-in-loop-end.ensures ∙ c.in-Some-pair_at.is), next_high c.loop-end.invariant c.loop-end-test.true _ _ (sym c.pair_at-in-loop-end.ensures ∙ c.in-Some-pair_at.is))

pub returns-then-not-is_before : goal.returns-then-not-is_before
returns-then-not-is_before c = sym (next_disorder c.loop-end.invariant c.loop-end-test.true _ _ (sym c.pair_at-in-loop-end.ensures ∙ c.in-Some-pair_at.is) _ c.is_before.ensures (c.if-not-is_before.true))

pub loop-end-smaller : goal.loop-end-smaller
loop-end-smaller c = omega (arith, next_low c.loop-end.invariant c.loop-end-test.true _ _ (sym c.pair_at-in-loop-end.ensures ∙ c.in-Some-pair_at.is), next_mid c.loop-end.invariant c.loop-end-test.true _ _ (sym c.pair_at-in-loop-end.ensures ∙ c.in-Some-pair_at.is), next_high c.loop-end.invariant c.loop-end-test.true _ _ (sym c.pair_at-in-loop-end.ensures ∙ c.in-Some-pair_at.is))

pub loop-end-preserved : goal.loop-end-preserved
loop-end-preserved c = next_more c.loop-end.invariant c.loop-end-test.true _ _ (sym c.pair_at-in-loop-end.ensures ∙ c.in-Some-pair_at.is) _ c.is_before.ensures (c.if-not-is_before.false)

pub returns : goal.returns
returns c = sym (going_all c.loop-end.invariant c.loop-end-test.false)
