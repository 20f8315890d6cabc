-- `convert` meets its contract: no field sheet, or one that a strict export refuses, or what its writer tells of the field that was read (`sheet_told`).
-- Assumes nothing.
use Rattle.refusal.proofs.ErrLaws.{passed}
use Rattle.field_calls.proofs.AnswerLaws.{sheet_unread, field_there, sheet_told}
use Rattle.field_calls.proofs.convert.Goals as goal

pub put_sheet-requires : goal.put_sheet-requires
put_sheet-requires c =
    let a = c.args in
    let r = c.read_as in
    field_there a.call a.s.now c.is_strict.ensures r.result r.ensures _ c.in_ok-at.was

pub returns-in_err-at : goal.returns-in_err-at
returns-in_err-at c =
    let a = c.args in
    let r = c.read_as in
    rw (passed c.from_residual.result _ c.from_residual.ensures.1) (sheet_unread a.call a.s.now c.is_strict.ensures r.result r.ensures _ c.in_err-at.was)

pub returns : goal.returns
returns c =
    let a = c.args in
    let r = c.read_as in
    let p = c.put_sheet in
    sheet_told a.call a.s.now c.is_strict.ensures r.result r.ensures _ c.in_ok-at.was a.out.now p.new.out p.result p.ensures
