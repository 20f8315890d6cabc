-- `contains_dictionary` meets its contract: the laws of a sheet that was read, or not, are in `CallLaws`. Assumes nothing.
use mathlib.Core.Path.{ap}
use Rattle.sheets.specs.Answer.{given}
use Rattle.sheets.specs.Mappings.{contains_dictionary}
use Rattle.sheets.specs.Outcome.{yes_no}
use Rattle.refusal.proofs.ErrLaws.{passed}
use Rattle.mapping_calls.proofs.CallLaws.{sheet_unread, read_there, found_told, absent_told}
use Rattle.mapping_calls.proofs.contains_dictionary.Goals as goal

pub search_type-requires : goal.search_type-requires
search_type-requires c = read_there c.args.s.now c.read_sheet.result c.read_sheet.ensures _ c.in_ok-at.was

pub returns-in_err-at : goal.returns-in_err-at
returns-in_err-at c =
    rw (passed c.from_residual.result _ c.from_residual.ensures.1) (ap yes_no (sheet_unread c.args.s.now c.read_sheet.result c.read_sheet.ensures _ c.in_err-at.was (λ f. given (contains_dictionary f.type))))

pub returns-in-None : goal.returns-in-None
returns-in-None c =
    let r = c.read_sheet in
    found_told c.args.s.now r.result r.ensures _ c.in_ok-at.was c.search_type.result c.search_type.ensures c.in-None.is

pub returns-in-Some : goal.returns-in-Some
returns-in-Some c =
    let r = c.read_sheet in
    absent_told c.args.s.now r.result r.ensures _ c.in_ok-at.was c.search_type.result c.search_type.ensures _ c.in-Some.is
