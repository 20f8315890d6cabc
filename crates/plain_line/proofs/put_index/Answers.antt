-- `put_index` meets its contract: a chain of three writes. Assumes nothing.
use mathlib.Core.Path.{sym}
use mathlib.Core.List.{◌++◌}
use native.Mathlib.Omega.{arith}
use Rattle.sheets.specs.FieldSheet.{no_text, columns}
use Rattle.buffer.proofs.OverLaws.{none_yet, and_then}
use Rattle.field_line.specs.Columns.{columns_piece, own_piece, end_piece}
use Rattle.field_line.proofs.ColumnLaws.{put_same, bare_line}
use Rattle.field_line.proofs.LengthLaws.{bare_length}
use Rattle.plain_line.specs.Begins.{index_line}
use Rattle.plain_line.proofs.BeginLaws.{index_shape, numbers_short}
use Rattle.plain_line.proofs.put_index.Goals as goal

pub put_bare-children-requires : goal.put_bare-children-requires
put_bare-children-requires c = omega (arith, c.put_numbers-own.ensures.0, numbers_short c.args.index c.requires)

pub put_end-requires : goal.put_end-requires
put_end-requires c = omega (arith, c.put_numbers-own.ensures.0, numbers_short c.args.index c.requires, c.put_bare-children.ensures.0, bare_length)

pub returns : goal.returns
returns c =
    let a = c.args in
    let shape = columns_piece (columns (index_shape a.index)) in
    let w = and_then (end_piece 0) (and_then (own_piece no_text no_text no_text) (and_then shape (none_yet 0 a.out.now) c.put_numbers-own.ensures) c.put_bare-children.ensures) c.put_end.ensures in
    put_same 0 a.out.now ((shape ++ own_piece no_text no_text no_text) ++ end_piece 0) (index_line a.index) (sym (bare_line (index_shape a.index) 0)) (w.place, w.holds)
