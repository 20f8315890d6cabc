-- `is_sheet` meets its contract: the sheet is too long, or its heading decides. Assumes nothing.
use mathlib.Core.Path.{ap, sym, ◌∙◌}
use mathlib.Core.Bool.{Bool, ◌&&◌}
use borrow.Author.Tests.{le-leb, lt-leb}
use Rattle.sheets.specs.Sheet.{sheet_limit, is_headed}
use Rattle.sheets.specs.Schema.{schema_heading}
use lib.ListN.{length}
use Rattle.schema_sheet.proofs.is_sheet.Goals as goal

pub returns-then-s-gt-SHEET_LIMIT : goal.returns-then-s-gt-SHEET_LIMIT
returns-then-s-gt-SHEET_LIMIT c =
    let s = c.args.s.now in
    ap (λ (b : Bool). b && is_headed schema_heading s) (sym (lt-leb (length s) sheet_limit c.if-s-gt-SHEET_LIMIT.true))

pub returns : goal.returns
returns c =
    let s = c.args.s.now in
    c.has_heading.ensures ∙ ap (λ (b : Bool). b && is_headed schema_heading s) (sym (le-leb (length s) sheet_limit c.if-s-gt-SHEET_LIMIT.false))
