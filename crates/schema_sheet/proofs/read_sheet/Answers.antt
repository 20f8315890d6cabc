-- `read_sheet` meets its contract: each way out has its law in `SheetLaws`. Assumes nothing.
use mathlib.Core.Path.{ap, sym, subst, ◌∙◌}
use Rattle.std.specs.Prelude.{Err}
use Rattle.schema_sheet.specs.Trees.{Forms}
use Rattle.schema_sheet.proofs.SheetLaws.{sheet_not, sheet_broken, sheet_bad, sheet_deep, sheet_whole, sheet_left}
use Rattle.schema_sheet.proofs.read_sheet.Goals as goal

pub returns-then-not-is_sheet : goal.returns-then-not-is_sheet
returns-then-not-is_sheet c = sheet_not c.args.s.now (sym c.is_sheet.ensures ∙ c.if-not-is_sheet.true)

pub returns-then-form : goal.returns-then-form
returns-then-form c =
    let s = c.args.s.now in
    let headed = sym c.is_sheet.ensures ∙ c.if-not-is_sheet.false in
    sheet_deep s headed _ c.read_tree.ensures (c.in-Err.is ∙ ap Err c.in-TooDeep.is) (subst (Forms s 47) c.if-form.true c.form.ensures)

pub returns-then-end-s : goal.returns-then-end-s
returns-then-end-s c =
    let s = c.args.s.now in
    let headed = sym c.is_sheet.ensures ∙ c.if-not-is_sheet.false in
    sheet_left s headed _ c.read_tree.ensures _ c.in-Ok.is c.if-end-s.true

pub returns-in_default : goal.returns-in_default
returns-in_default c =
    let s = c.args.s.now in
    let headed = sym c.is_sheet.ensures ∙ c.if-not-is_sheet.false in
    sheet_bad s headed _ c.read_tree.ensures _ c.in-Err.is c.in_default.not-TooDeep

pub returns-else-form : goal.returns-else-form
returns-else-form c =
    let s = c.args.s.now in
    let headed = sym c.is_sheet.ensures ∙ c.if-not-is_sheet.false in
    sheet_broken s headed _ c.if-form.false c.form.ensures

pub returns-else-end-s : goal.returns-else-end-s
returns-else-end-s c =
    let s = c.args.s.now in
    let headed = sym c.is_sheet.ensures ∙ c.if-not-is_sheet.false in
    sheet_whole s headed _ c.read_tree.ensures _ c.in-Ok.is c.if-end-s.false
