-- `read_as` meets its contract: each way out has its law in `SheetLaws`. Assumes nothing.
use Rattle.std.specs.Prelude.{ℕ, Result, Err, Option}
use mathlib.Core.Path.{sym, ap, subst, ◌∙◌}
use Rattle.sheets.specs.Sheet.{level_limit}
use Rattle.field_sheet.specs.declared.trees.NoTree.{NoTree}
use Rattle.field_sheet.specs.Trees.{Forms}
use Rattle.field_sheet.specs.Subtrees.{SkipsTree}
use mathlib.Core.Bool.{false}
use Rattle.field_sheet.proofs.SheetLaws.{sheet_long, sheet_headless, sheet_broken, sheet_bad, sheet_deep, sheet_tall, sheet_held, sheet_whole, sheet_left, row_tree}
use Rattle.sheets.specs.Answer.{found}
use Rattle.sheets.specs.Refusal.{too_deep}
use Rattle.field_sheet.proofs.read_as.Goals as goal

-- why no tree was read, as the answer of the reading
abbrev err : NoTree → Result ℕ NoTree
err q = Err q

pub returns-then-s-gt-SHEET_LIMIT : goal.returns-then-s-gt-SHEET_LIMIT
returns-then-s-gt-SHEET_LIMIT c =
    let a = c.args in sheet_long a.strict a.s.now c.if-s-gt-SHEET_LIMIT.true

pub returns-then-not-has_heading : goal.returns-then-not-has_heading
returns-then-not-has_heading c =
    let a = c.args in sheet_headless a.strict a.s.now c.if-s-gt-SHEET_LIMIT.false (sym c.has_heading.ensures ∙ c.if-not-has_heading.true)

pub read_tree-requires : goal.read_tree-requires
read_tree-requires c = c.if-s-gt-SHEET_LIMIT.false

pub returns-then-form : goal.returns-then-form
returns-then-form c =
    let a = c.args in
    let headed = sym c.has_heading.ensures ∙ c.if-not-has_heading.false in
    sheet_deep a.strict a.s.now c.if-s-gt-SHEET_LIMIT.false headed _ c.read_tree.ensures (c.in-Err-Deep.is ∙ ap (λ (q : NoTree). err q) c.in-Err-Deep.field-0-is) (subst (Forms a.s.now 48) c.if-form.true c.form.ensures)

pub returns-then-end-s : goal.returns-then-end-s
returns-then-end-s c =
    let a = c.args in
    let headed = sym c.has_heading.ensures ∙ c.if-not-has_heading.false in
    sheet_left a.strict a.s.now c.if-s-gt-SHEET_LIMIT.false headed _ c.read_tree.ensures _ c.in-Ok.is c.if-end-s.true

pub returns-then-not-form : goal.returns-then-not-form
returns-then-not-form c =
    let a = c.args in
    let headed = sym c.has_heading.ensures ∙ c.if-not-has_heading.false in
    sheet_broken a.strict a.s.now c.if-s-gt-SHEET_LIMIT.false headed c.form-in-Err-Held.result (c.if-not-form.true) c.form-in-Err-Held.ensures

pub skip-requires : goal.skip-requires
skip-requires c =
    let a = c.args in row_tree a.s.now 48 (subst (Forms a.s.now 48) (c.if-not-form.false) c.form-in-Err-Held.ensures)

pub returns-in-Err-Bad : goal.returns-in-Err-Bad
returns-in-Err-Bad c =
    let a = c.args in
    let headed = sym c.has_heading.ensures ∙ c.if-not-has_heading.false in
    sheet_bad a.strict a.s.now c.if-s-gt-SHEET_LIMIT.false headed _ c.read_tree.ensures (c.in-Err-Bad.is ∙ ap (λ (q : NoTree). err q) c.in-Err-Bad.field-0-is)

pub returns-else-form : goal.returns-else-form
returns-else-form c =
    let a = c.args in
    let headed = sym c.has_heading.ensures ∙ c.if-not-has_heading.false in
    sheet_broken a.strict a.s.now c.if-s-gt-SHEET_LIMIT.false headed _ c.if-form.false c.form.ensures

pub returns-else-end-s : goal.returns-else-end-s
returns-else-end-s c =
    let a = c.args in
    let headed = sym c.has_heading.ensures ∙ c.if-not-has_heading.false in
    sheet_whole a.strict a.s.now c.if-s-gt-SHEET_LIMIT.false headed _ c.read_tree.ensures _ c.in-Ok.is c.if-end-s.false

pub returns-in-None : goal.returns-in-None
returns-in-None c =
    let a = c.args in
    let headed = sym c.has_heading.ensures ∙ c.if-not-has_heading.false in
    let formed = subst (Forms a.s.now 48) (c.if-not-form.false) c.form-in-Err-Held.ensures in
    let deep = subst (λ (x : Option ℕ). SkipsTree a.s.now 48 false level_limit (found too_deep x)) c.in-None.is c.skip.ensures in
    sheet_tall a.strict a.s.now c.if-s-gt-SHEET_LIMIT.false headed formed deep.1

pub returns-in-Some : goal.returns-in-Some
returns-in-Some c =
    let a = c.args in
    let headed = sym c.has_heading.ensures ∙ c.if-not-has_heading.false in
    let formed = subst (Forms a.s.now 48) (c.if-not-form.false) c.form-in-Err-Held.ensures in
    let to = subst (λ (x : Option ℕ). SkipsTree a.s.now 48 false level_limit (found too_deep x)) c.in-Some.is c.skip.ensures in
    sheet_held a.strict a.s.now c.if-s-gt-SHEET_LIMIT.false headed _ c.read_tree.ensures c.in-Err-Held.r (c.in-Err-Held.is ∙ ap (λ (q : NoTree). err q) c.in-Err-Held.field-0-is) formed _ to
