-- `put_name` meets its contract: a chain of two writes. Assumes nothing.
use native.Mathlib.Omega.{arith}
use Rattle.sheets.specs.Number.{decimal}
use Rattle.sheets.specs.FieldSheet.{to_nat}
use Rattle.buffer.proofs.OverLaws.{none_yet, and_then}
use Rattle.field_line.specs.Columns.{column}
use Rattle.node.specs.Names.{name_column, name_piece}
use Rattle.field_line.proofs.LengthLaws.{column_length_lem}
use Rattle.node.proofs.NameLaws.{name_length}
use Rattle.node.proofs.name.put_name.Goals as goal

pub put_flag-requires : goal.put_flag-requires
put_flag-requires c =
    let name = c.args.name.now in
    omega (arith, column_length_lem (name_column name), name_length name)

pub returns : goal.returns
unfolding name_piece
returns c =
    let a = c.args in
    let name = and_then (column (name_column a.name.now)) (none_yet a.at a.out.now) c.put_name_column-end.ensures in
    let w = and_then (column (decimal (to_nat a.nullable))) name c.put_flag.ensures in
    (w.place, w.holds)
