-- `put_dtype` meets its contract: a chain of four writes. Assumes nothing.
use mathlib.Core.List.{◌++◌}
use Rattle.sheets.specs.Sheet.{heading_line}
use Rattle.sheets.specs.FieldSheet.{field_heading, no_text}
use Rattle.buffer.proofs.OverLaws.{none_yet, and_then}
use Rattle.field_line.specs.Columns.{columns_piece, own_piece, end_piece}
use Rattle.field_line.proofs.ColumnLaws.{put_same}
use Rattle.field_line.proofs.LengthLaws.{bare_length}
use Rattle.datatypes.specs.Dtypes.{dtype_columns}
use Rattle.mapping_calls.specs.Conversions.{dtype_sheet}
use Rattle.mapping_calls.proofs.ConversionLaws.{dtype_written, heading_short, numbers_short}
use native.Mathlib.Omega.{arith}
use borrow.Author.Rules.{rules}
use Rattle.mapping_calls.proofs.conversions.put_dtype.Goals as goal

pub put_bare-children-requires : goal.put_bare-children-requires
put_bare-children-requires c =
    let d = c.args.d in
    omega (arith, c.put_numbers-own.ensures.0, c.put_heading-head.ensures.0, heading_short, numbers_short d (search rules) (search rules) (search rules))

pub put_end-requires : goal.put_end-requires
put_end-requires c =
    let d = c.args.d in
    omega (arith, c.put_bare-children.ensures.0, bare_length, c.put_numbers-own.ensures.0, c.put_heading-head.ensures.0, heading_short, numbers_short d (search rules) (search rules) (search rules))

pub returns : goal.returns
returns c =
    let a = c.args in
    let heading = heading_line field_heading in
    let shape = columns_piece (dtype_columns a.d) in
    let bare = own_piece no_text no_text no_text in
    let w = and_then (end_piece 0) (and_then bare (and_then shape (and_then heading (none_yet 0 a.out.now) c.put_heading-head.ensures) c.put_numbers-own.ensures) c.put_bare-children.ensures) c.put_end.ensures in
    put_same 0 a.out.now (((heading ++ shape) ++ bare) ++ end_piece 0) (dtype_sheet a.d) (dtype_written a.d) (w.place, w.holds)
