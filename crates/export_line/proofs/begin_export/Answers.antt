-- `begin_export` meets its contract: the two lines say what the field's walk writes and what is left of it. Assumes nothing.
use Rattle.storage_line.proofs.BelowLaws.{row_there, passed_few}
use Rattle.export_line.proofs.BelowLaws.{index_fits, can_put, begins}
use Rattle.export_line.proofs.begin_export.Goals as goal

pub row_below-row-requires : goal.row_below-row-requires
row_below-row-requires c =
    let (i, t, es, f) = c.requires in
    let k = c.field_line_at-first.ensures in
    let g = c.storage_line-inner.ensures i t es f in
    row_there c.args.tree f g

pub line_numbers-numbers-requires : goal.line_numbers-numbers-requires
line_numbers-numbers-requires c =
    let (i, t, es, f) = c.requires in
    let k = c.field_line_at-first.ensures in
    let g = c.storage_line-inner.ensures i t es f in
    index_fits c.args.big c.args.tree f _ k g _ c.is_alone-alone.ensures

pub put_schema_line-line-requires : goal.put_schema_line-line-requires
put_schema_line-line-requires c =
    let (i, t, es, f) = c.requires in
    let k = c.field_line_at-first.ensures in
    let g = c.storage_line-inner.ensures i t es f in
    can_put c.args.big c.args.tree f _ k g _ c.is_alone-alone.ensures _ _ c.line_columns-columns.ensures c.line_numbers-numbers.ensures

pub line_begun-requires : goal.line_begun-requires
line_begun-requires c =
    let (i, t, es, f) = c.requires in
    passed_few c.args.tree f (c.storage_line-inner.ensures i t es f)

pub returns : goal.returns
returns c =
    λ i t es f.
    let a = c.args in
    let k = c.field_line_at-first.ensures in
    let g = c.storage_line-inner.ensures i t es f in
    begins a.big a.tree f _ k g _ c.is_alone-alone.ensures _ c.row_below-row.ensures _ _ _ _ c.line_columns-columns.ensures c.line_numbers-numbers.ensures c.put_schema_line-line.result c.put_schema_line-line.ensures c.line_begun.result c.line_begun.ensures
