-- `put_dictionary` meets its contract: its columns are three numbers. Assumes nothing.
use mathlib.Core.Path.{ap₂}
use Prim.Native.Nat.{ℕ}
use Rattle.sheets.specs.FieldSheet.{columns, of_dictionary, no_text}
use Rattle.sheets.specs.Kind
use Rattle.datatypes.specs.Places.{integer_place}
use Rattle.field_line.specs.Columns.{shape_piece, columns_piece}
use Rattle.field_line.proofs.ColumnLaws.{put_same}
use Rattle.import_type.proofs.put_dictionary.Goals as goal

pub returns : goal.returns
returns c =
    let a = c.args in
    let p = c.place in
    let q = c.flag in
    let e = ap₂ (λ (x y : ℕ). shape_piece Kind.Dictionary x y no_text no_text) p.ensures q.ensures in
    put_same a.at a.out.now (shape_piece Kind.Dictionary p.result q.result no_text no_text) (columns_piece (columns (of_dictionary (integer_place a.index) a.ordered))) e c.put_numbers.ensures
