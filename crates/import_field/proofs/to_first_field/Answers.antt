-- `to_first_field` meets its contract: a field is a row of one field (`FirstLaws`). Assumes nothing.
use Rattle.import_field.proofs.FirstLaws.{row_told}
use Rattle.import_field.proofs.to_first_field.Goals as goal

pub returns : goal.returns
returns c =
    let a = c.args in
    let r = c.to_fields in
    row_told a.s.now a.tree a.out.now r.new.out r.result r.ensures
