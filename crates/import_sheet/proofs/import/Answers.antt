-- `import` meets its contract: each way out has its law in `SheetLaws`. Assumes nothing.
use Rattle.import_sheet.proofs.SheetLaws.{import_refused_lem, import_done}
use Rattle.import_sheet.proofs.import.Goals as goal

pub returns-in-Err : goal.returns-in-Err
returns-in-Err c =
    let a = c.args in
    let p = c.convert in
    import_refused_lem a.s.now a.big a.out.now p.new.out p.result p.ensures _ c.in-Err.is p.auto.out _ c.refuse.ensures

pub returns-in-Ok : goal.returns-in-Ok
returns-in-Ok c =
    let a = c.args in
    let p = c.convert in
    import_done a.s.now a.big a.out.now p.new.out p.result p.ensures _ _ c.in-Ok.is c.written.result _ c.written.ensures
