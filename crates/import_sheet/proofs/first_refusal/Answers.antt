-- `first_refusal` meets its contract: the sheet is refused, or it is not (`SheetLaws`). Assumes nothing.
use Rattle.import_sheet.proofs.SheetLaws.{first_of, none_first}
use Rattle.import_sheet.proofs.first_refusal.Goals as goal

pub returns-in-Err : goal.returns-in-Err
returns-in-Err c =
    let s = c.args.s.now in
    let k = c.read_sheet in
    first_of s k.result k.ensures c.args.r _ c.in-Err.is

pub returns-in-Ok : goal.returns-in-Ok
returns-in-Ok c =
    let s = c.args.s.now in
    let k = c.read_sheet in
    none_first s k.result k.ensures c.args.r _ c.in-Ok.is
