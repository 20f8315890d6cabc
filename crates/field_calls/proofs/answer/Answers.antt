-- `answer` meets its contract: each way out has its law in `AnswerLaws`. Assumes nothing.
use Rattle.field_calls.proofs.AnswerLaws.{answer_refused, answer_done}
use Rattle.field_calls.proofs.answer.Goals as goal

pub returns-in-Err : goal.returns-in-Err
returns-in-Err c =
    let a = c.args in
    let p = c.convert in
    answer_refused a.call a.s.now a.out.now p.new.out p.result p.ensures _ c.in-Err.is p.auto.out _ c.refuse.ensures

pub returns-in-Ok : goal.returns-in-Ok
returns-in-Ok c =
    let a = c.args in
    let p = c.convert in
    let w = c.written in
    answer_done a.call a.s.now a.out.now p.new.out p.result p.ensures _ _ c.in-Ok.is w.result w.new.out w.ensures
