-- `put_numbers` meets its contract: a chain of two writes. Assumes nothing.
use mathlib.Core.List.{[], ◌∷◌, ◌++◌}
use native.Mathlib.Omega.{arith}
use Rattle.sheets.specs.FieldSheet.{no_text}
use Rattle.buffer.proofs.OverLaws.{none_yet, and_then}
use Rattle.field_line.specs.Columns.{kind_piece, shape_piece}
use Rattle.field_line.proofs.ColumnLaws.{put_same, numbers_written}
use Rattle.field_line.proofs.LengthLaws.{kind_short}
use Rattle.field_line.proofs.put_numbers.Goals as goal

pub put_at-requires : goal.put_at-requires
put_at-requires c = omega (arith, c.put_kind-texts.ensures.0, kind_short c.args.kind c.args.p c.args.q c.ranges.kind.fits c.ranges.p.fits c.ranges.q.fits, c.requires)

pub returns : goal.returns
returns c =
    let a = c.args in
    let kind = kind_piece a.kind a.p a.q in
    let numbers = and_then kind (none_yet a.at a.out.now) c.put_kind-texts.ensures in
    let w = and_then (126 ∷ 32 ∷ 126 ∷ 32 ∷ []) numbers c.put_at.ensures in
    put_same a.at a.out.now (kind ++ (126 ∷ 32 ∷ 126 ∷ 32 ∷ [])) (shape_piece a.kind a.p a.q no_text no_text) (numbers_written a.kind a.p a.q) (w.place, w.holds)
