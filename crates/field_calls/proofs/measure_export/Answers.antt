-- `measure_export` meets its contract: what the conversion tells is its measure, and the lines of an export are those of the definition (`export_measured`).
-- Assumes nothing.
use mathlib.Core.Path.{refl, ◌∙◌}
use mathlib.Core.Bool.{false}
use Rattle.field_walk.specs.declared.Call.TheVariants.{Export}
use Rattle.refusal.proofs.ErrLaws.{passed}
use Rattle.field_calls.proofs.AnswerLaws.{unmeasured, measured, export_measured}
use Rattle.field_calls.proofs.measure_export.Goals as goal

pub returns-in_err-size : goal.returns-in_err-size
returns-in_err-size c =
    let a = c.args in
    let p = c.convert in
    rw (passed c.from_residual.result _ c.from_residual.ensures.1) (unmeasured (Export a.big false) a.s.now _ p.new.out p.result p.ensures _ c.in_err-size.was _ refl ∙ export_measured a.big a.s.now)

pub returns : goal.returns
returns c =
    let a = c.args in
    let p = c.convert in
    measured (Export a.big false) a.s.now _ p.new.out p.result p.ensures _ _ c.in_ok-size.was _ refl ∙ export_measured a.big a.s.now
