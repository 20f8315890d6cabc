-- `is_nested` meets its contract: the laws of a sheet that was read, or not, are in `CallLaws`. Assumes nothing.
use mathlib.Core.Path.{ap}
use Rattle.sheets.specs.Answer.{given}
use Rattle.sheets.specs.Mappings.{is_nested}
use Rattle.sheets.specs.Outcome.{yes_no}
use Rattle.refusal.proofs.ErrLaws.{passed}
use Rattle.mapping_calls.proofs.CallLaws.{sheet_unread, read_tree, nested_told}
use Rattle.mapping_calls.proofs.is_nested.Goals as goal

pub field_line_at-l-requires : goal.field_line_at-l-requires
field_line_at-l-requires c = read_tree c.args.s.now c.read_sheet.result c.read_sheet.ensures _ c.in_ok-at.was

pub returns-in_err-at : goal.returns-in_err-at
returns-in_err-at c =
    rw (passed c.from_residual.result _ c.from_residual.ensures.1) (ap yes_no (sheet_unread c.args.s.now c.read_sheet.result c.read_sheet.ensures _ c.in_err-at.was (λ f. given (is_nested f.type))))

pub returns : goal.returns
returns c =
    let r = c.read_sheet in
    nested_told c.args.s.now r.result r.ensures _ c.in_ok-at.was _ c.field_line_at-l.ensures _ c.nesting_of.ensures _ c.holds_types.ensures
