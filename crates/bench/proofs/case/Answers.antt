-- `case` meets its contract: what is printed of a row's sheet has the number that the table wants (`row_number`). Assumes nothing.
use Rattle.print_import.proofs.NumberLaws.{number_known}
use Rattle.bench.proofs.RowLaws.{row_number}
use Rattle.bench.proofs.case.Goals as goal

pub returns : goal.returns
returns g c =
    let a = c.args in
    number_known _ _ _ (row_number a.row a.sheet.now c.requires) c.print_import.ensures.number
