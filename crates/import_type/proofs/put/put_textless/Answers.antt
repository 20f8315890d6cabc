-- `put_textless` meets its contract: the columns are the numbers. Assumes nothing.
use mathlib.Core.Path.{sym, ap}
use Rattle.sheets.specs.FieldSheet.{columns}
use Rattle.field_line.specs.Columns.{columns_piece}
use Rattle.field_line.proofs.ColumnLaws.{put_same}
use Rattle.format.specs.Formats.{textless_format}
use Rattle.import_type.specs.TypeColumns.{shape_of, number_columns}
use Rattle.import_type.proofs.put.put_textless.Goals as goal

pub returns : goal.returns
returns c =
    let a = c.args in
    let n = c.numbers_of-c in
    put_same a.at a.out.now (columns_piece (number_columns n.result)) (columns_piece (columns (shape_of (textless_format a.t)))) (sym (ap columns_piece n.ensures)) c.put_numbers.ensures
