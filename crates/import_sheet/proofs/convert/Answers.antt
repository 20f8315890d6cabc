-- `convert` meets its contract: it is no sheet, or its lines were written in one pass, or something was refused (`SheetLaws`). Assumes nothing.
use mathlib.Core.Path.{sym, ◌∙◌}
use Rattle.schema_sheet.proofs.SheetLaws.{is_short_lem, is_within}
use Rattle.import_sheet.proofs.SheetLaws.{convert_not, convert_refused, convert_done}
use Rattle.import_sheet.proofs.convert.Goals as goal

pub returns-then-not-is_sheet : goal.returns-then-not-is_sheet
returns-then-not-is_sheet c =
    let a = c.args in
    convert_not a.s.now a.big a.out.now (sym c.is_sheet.ensures ∙ c.if-not-is_sheet.true)

pub put_by_length-requires : goal.put_by_length-requires
put_by_length-requires c =
    let s = c.args.s.now in
    let headed = sym c.is_sheet.ensures ∙ c.if-not-is_sheet.false in
    (is_short_lem s headed, is_within s headed)

pub returns-in-Err : goal.returns-in-Err
returns-in-Err c =
    let a = c.args in
    let headed = sym c.is_sheet.ensures ∙ c.if-not-is_sheet.false in
    let p = c.put_by_length in
    convert_refused a.s.now a.big headed a.out.now p.new.out p.result p.ensures _ c.first_refusal.result c.in-Err.is c.first_refusal.ensures

pub returns-in-Ok : goal.returns-in-Ok
returns-in-Ok c =
    let a = c.args in
    let headed = sym c.is_sheet.ensures ∙ c.if-not-is_sheet.false in
    let p = c.put_by_length in
    convert_done a.s.now a.big headed a.out.now p.new.out p.result p.ensures _ _ c.in-Ok.is c.all_read.result c.all_read.ensures
