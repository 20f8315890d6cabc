-- The proof of the cycle of calls {next_type, walk_row, walk_type}: `line_measure` falls from a row to its types and `row_measure` from a line to its row, and
-- `next_type` stands between. The laws are those of crate walks, at the step of the call. Assumes nothing.
use mathlib.Core.Path.{refl, ap, subst, ◌∙◌}
use mathlib.Core.List.{List, [], ◌++◌}
use native.Mathlib.Omega.{arith}
use borrow.Author.Rules.{rules}
use lib.ListN.{length, take, drop}
use Rattle.sheets.specs.Bytes.{Bytes}
use Rattle.sheets.specs.FieldSheet.{Entry}
use Rattle.sheets.proofs.WalkLaws.{line_falls}
use Rattle.buffer.proofs.OverLaws.{length_lent}
use Rattle.walks.specs.Places.{RowAt}
use Rattle.walks.specs.Answers.{begun_answer}
use Rattle.walks.proofs.RowLaws.{Going, going_none, going_type, going_more, going_refused, going_all}
use Rattle.walks.proofs.EndLaws.{row_there, row_refused, both_long, both_few, type_ended}
use Rattle.field_walk.specs.Calls.{step_of, state_of, CallWrote}
use Rattle.field_walk.proofs.CycleLaws.{begun_below, begun_refused, leaf_put, leaf_other}
use Prim.Native.Nat.{ℕ, ◌+◌, ◌-◌}
use Rattle.refusal.proofs.ErrLaws.{passed}
use Rattle.refusal.specs.Refusals.{answer_of}
use Rattle.field_walk.proofs.+next_type_walk_row_walk_type.Goals as goal

pub next_type-walk_type-requires : goal.next_type-walk_type-requires
next_type-walk_type-requires t c = (omega (arith, c.decreases), c.requires)

pub next_type-shape_of-out-in-Some : goal.next_type-shape_of-out-in-Some
next_type-shape_of-out-in-Some t c = c.put_leaf.auto.out

pub next_type-returns-in-Some : goal.next_type-returns-in-Some
next_type-returns-in-Some t c =
    let a = c.args in let r = c.put_leaf in leaf_put (step_of a.call) _ _ _ _ _ _ _ r.result _ _ (c.in-Some.is) r.ensures

pub next_type-shape_of-out-in-None : goal.next_type-shape_of-out-in-None
next_type-shape_of-out-in-None t c = c.walk_type.auto.out ∙ c.put_leaf.auto.out

pub next_type-returns-in-None : goal.next_type-returns-in-None
next_type-returns-in-None t c =
    let a = c.args in
    let r = c.put_leaf in
    let w = c.walk_type in
    subst (λ (x : Bytes). CallWrote a.call a.s.now a.tree x w.new.out w.result) (leaf_other (step_of a.call) _ _ _ _ _ _ _ r.result (c.in-None.is) r.ensures) w.ensures

pub walk_row-loop-i-init : goal.walk_row-loop-i-init
walk_row-loop-i-init t c = (search rules, refl, λ us es h. going_none (step_of c.args.call) _ _ _ _ _ _ _ us es h)

pub walk_row-slice_bounds-next_type-count : goal.walk_row-slice_bounds-next_type-count
walk_row-slice_bounds-next_type-count t c = omega arith

pub walk_row-slice_bounds-next_type-start : goal.walk_row-slice_bounds-next_type-start
walk_row-slice_bounds-next_type-start t c = omega arith

pub walk_row-slice_bounds-next_type-end : goal.walk_row-slice_bounds-next_type-end
walk_row-slice_bounds-next_type-end t c = omega arith

pub walk_row-next_type-requires : goal.walk_row-next_type-requires
walk_row-next_type-requires t c =
    let l = c.loop-i in
    let w = c.args.row in
    (omega (arith, c.decreases, line_falls w.inside w.levels), going_type (step_of c.args.call) _ _ _ _ _ _ _ c.requires.0 c.requires.1 _ _ _ _ _ (l.invariant.2 c.requires.0 c.requires.1 c.requires.2) c.loop-i-test.true)

pub walk_row-returns-in_err-next : goal.walk_row-returns-in_err-next
walk_row-returns-in_err-next t c =
    let a = c.args in
    let r = c.next_type in
    rw (passed c.from_residual.result _ c.from_residual.ensures.1)
    (λ us es h. going_refused (step_of a.call) _ _ _ _ _ _ _ us es _ _ _ _ _ (c.loop-i.invariant.2 us es h) c.loop-i-test.true _ r.new.out (answer_of r.result) _ (ap answer_of c.in_err-next.was) r.ensures)

pub walk_row-overflow_add-sum : goal.walk_row-overflow_add-sum
walk_row-overflow_add-sum t c =
    let g = going_more (step_of c.args.call) _ _ _ _ _ _ _ c.requires.0 c.requires.1 _ _ _ _ _ (c.loop-i.invariant.2 c.requires.0 c.requires.1 c.requires.2) c.loop-i-test.true c.within-w.result c.within-w.ensures c.next_type.new.out (answer_of c.next_type.result) _ _ (ap answer_of c.in_ok-next.was) c.next_type.ensures in
    omega (arith, g.long, g.left.within, g.left.short)

pub walk_row-overflow_add-seen : goal.walk_row-overflow_add-seen
walk_row-overflow_add-seen t c =
    let g = going_more (step_of c.args.call) _ _ _ _ _ _ _ c.requires.0 c.requires.1 _ _ _ _ _ (c.loop-i.invariant.2 c.requires.0 c.requires.1 c.requires.2) c.loop-i-test.true c.within-w.result c.within-w.ensures c.next_type.new.out (answer_of c.next_type.result) _ _ (ap answer_of c.in_ok-next.was) c.next_type.ensures in
    omega (arith, g.few, g.left.within, g.left.short)

pub walk_row-loop-i-preserved : goal.walk_row-loop-i-preserved
walk_row-loop-i-preserved t c =
    let called = c.next_type in
    (omega arith, length_lent c.within-w.result c.loop-i.out called.new.out called.auto.out ∙ c.loop-i.invariant.1, λ us es h. going_more (step_of c.args.call) _ _ _ _ _ _ _ us es _ _ _ _ _ (c.loop-i.invariant.2 us es h) c.loop-i-test.true c.within-w.result c.within-w.ensures c.next_type.new.out (answer_of c.next_type.result) _ _ (ap answer_of c.in_ok-next.was) c.next_type.ensures)

pub walk_row-shape_of-out : goal.walk_row-shape_of-out
walk_row-shape_of-out t c = c.loop-i.invariant.1

pub walk_row-returns : goal.walk_row-returns
walk_row-returns t c =
    let a = c.args in λ us es h. going_all (step_of a.call) _ _ _ _ _ _ _ us es _ _ _ _ _ (c.loop-i.invariant.2 us es h) c.loop-i-test.false

pub walk_type-slice_bounds-walk_row-count : goal.walk_type-slice_bounds-walk_row-count
walk_type-slice_bounds-walk_row-count t c = omega arith

pub walk_type-slice_bounds-walk_row-start : goal.walk_type-slice_bounds-walk_row-start
walk_type-slice_bounds-walk_row-start t c = omega arith

pub walk_type-slice_bounds-walk_row-end : goal.walk_type-slice_bounds-walk_row-end
walk_type-slice_bounds-walk_row-end t c = omega arith

pub walk_type-walk_row-requires : goal.walk_type-walk_row-requires
walk_type-walk_row-requires t c =
    let g = (let a = c.args in let r = c.begin_line in begun_below (step_of a.call) _ _ _ _ _ _ _ (begun_answer (state_of a.call) r.result) _ (ap (begun_answer (state_of a.call)) c.in_ok-row.was) r.ensures) c.requires.0 c.requires.1 c.requires.2 c.requires.3 in
    (omega (arith, c.decreases, g.falls), row_there g)

pub walk_type-overflow_add-both : goal.walk_type-overflow_add-both
walk_type-overflow_add-both t c =
    let g = (let a = c.args in let r = c.begin_line in begun_below (step_of a.call) _ _ _ _ _ _ _ (begun_answer (state_of a.call) r.result) _ (ap (begun_answer (state_of a.call)) c.in_ok-row.was) r.ensures) c.requires.0 c.requires.1 c.requires.2 c.requires.3 in
    let r = c.walk_row in
    omega (arith, both_long g _ r.new.out (answer_of r.result) _ _ (ap answer_of c.in_ok-next.was) r.ensures)

pub walk_type-overflow_add-both-2 : goal.walk_type-overflow_add-both-2
walk_type-overflow_add-both-2 t c =
    let g = (let a = c.args in let r = c.begin_line in begun_below (step_of a.call) _ _ _ _ _ _ _ (begun_answer (state_of a.call) r.result) _ (ap (begun_answer (state_of a.call)) c.in_ok-row.was) r.ensures) c.requires.0 c.requires.1 c.requires.2 c.requires.3 in
    let r = c.walk_row in
    omega (arith, both_few g _ r.new.out (answer_of r.result) _ _ (ap answer_of c.in_ok-next.was) r.ensures)

pub walk_type-returns-in_err-row : goal.walk_type-returns-in_err-row
walk_type-returns-in_err-row t c =
    let a = c.args in
    let r = c.begin_line in
    rw (passed c.from_residual.result _ c.from_residual.ensures.1)
    (begun_refused (step_of a.call) _ _ _ _ _ _ _ (begun_answer (state_of a.call) r.result) _ (ap (begun_answer (state_of a.call)) c.in_err-row.was) r.ensures [])

pub walk_type-returns-in_err-next : goal.walk_type-returns-in_err-next
walk_type-returns-in_err-next t c =
    let r = c.walk_row in
    rw (passed c.from_residual-in_err-next.result _ c.from_residual-in_err-next.ensures.1) (λ i u es h.
    let g = (let a = c.args in let r = c.begin_line in begun_below (step_of a.call) _ _ _ _ _ _ _ (begun_answer (state_of a.call) r.result) _ (ap (begun_answer (state_of a.call)) c.in_ok-row.was) r.ensures) i u es h in
    row_refused g _ r.new.out (answer_of r.result) _ (ap answer_of c.in_err-next.was) r.ensures)

pub walk_type-shape_of-out : goal.walk_type-shape_of-out
walk_type-shape_of-out t c =
    let called = c.walk_row in
    let first = c.begin_line in
    length_lent c.within-w.result first.new.out called.new.out called.auto.out ∙ first.auto.out

pub walk_type-returns : goal.walk_type-returns
walk_type-returns t c =
    let w = c.within-w in
    let r = c.walk_row in
    λ i u es h.
    let g = (let a = c.args in let r = c.begin_line in begun_below (step_of a.call) _ _ _ _ _ _ _ (begun_answer (state_of a.call) r.result) _ (ap (begun_answer (state_of a.call)) c.in_ok-row.was) r.ensures) i u es h in
    rw c.end_line.ensures (type_ended g _ r.new.out (answer_of r.result) _ _ (ap answer_of c.in_ok-next.was) r.ensures w.result w.ensures refl)
