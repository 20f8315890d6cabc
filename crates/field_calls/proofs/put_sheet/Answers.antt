-- `put_sheet` meets its contract: the laws are in `AnswerLaws`. Assumes nothing.
use mathlib.Core.Path.{refl}
use native.Mathlib.Omega.{arith}
use Rattle.refusal.proofs.ErrLaws.{passed}
use Rattle.field_calls.proofs.AnswerLaws.{opening_short, lines_refused, lines_long, lines_done}
use Rattle.field_calls.proofs.put_sheet.Goals as goal

pub overflow_add-size : goal.overflow_add-size
overflow_add-size c =
    let r = c.walk_first in
    omega (arith, lines_long c.args.call c.args.s.now c.args.at _ r.new.out r.result r.ensures _ _ c.in_ok-next.was c.requires, c.put_opening-head.ensures.0, opening_short c.args.call)

pub returns-in_err-next : goal.returns-in_err-next
returns-in_err-next c =
    let a = c.args in
    let r = c.walk_first in
    rw (passed c.from_residual.result _ c.from_residual.ensures.1) (lines_refused a.call a.s.now a.at _ r.new.out r.result r.ensures _ c.in_err-next.was)

pub returns : goal.returns
returns c =
    let a = c.args in
    let r = c.walk_first in
    let w = c.within-w in
    let h = c.put_opening-head in
    lines_done a.call a.s.now a.at _ r.new.out r.result r.ensures _ _ c.in_ok-next.was a.out.now h.new.out h.result w.result h.ensures w.ensures refl
