-- `measure_import` meets its contract: each way out has its law in `SheetLaws`. Assumes nothing.
use mathlib.Core.Path.{refl}
use mathlib.Core.List.{[]}
use Rattle.refusal.proofs.ErrLaws.{passed}
use Rattle.import_sheet.proofs.SheetLaws.{measure_turned, measure_told_lem}
use Rattle.import_sheet.proofs.measure_import.Goals as goal

pub returns-in_err-size : goal.returns-in_err-size
returns-in_err-size c =
    let a = c.args in
    let p = c.convert in
    rw (passed c.from_residual.result _ c.from_residual.ensures.1) (measure_turned a.s.now a.big [] p.new.out p.result p.ensures _ c.in_err-size.was _ refl)

pub returns : goal.returns
returns c =
    let a = c.args in
    let p = c.convert in
    measure_told_lem a.s.now a.big [] p.new.out p.result p.ensures _ _ c.in_ok-size.was _ refl
