-- `begin_change` meets its contract: the first line and the line of the type in all extensions say what the walk writes and what is left of it. Assumes nothing.
use native.Mathlib.Omega.{arith}
use mathlib.Core.Path.{sym, ◌∙◌}
use Rattle.storage_line.proofs.BelowLaws.{row_there, passed_few}
use Rattle.mapping_line.proofs.BeginLaws.{index_fits, can_put, can_put_kind, undefined, stayed, became}
use Rattle.mapping_line.proofs.begin_change.Goals as goal

pub line_change-requires : goal.line_change-requires
line_change-requires c =
    let (i, t, es, f) = c.requires in
    let k = c.field_line_at-first.ensures in
    let g = c.storage_line-inner.ensures i t es f in
    index_fits c.args.tree f k g

pub row_below-row-requires : goal.row_below-row-requires
row_below-row-requires c =
    let (i, t, es, f) = c.requires in
    let k = c.field_line_at-first.ensures in
    let g = c.storage_line-inner.ensures i t es f in
    row_there c.args.tree f g

pub put_line-len-requires : goal.put_line-len-requires
put_line-len-requires c =
    let (i, t, es, f) = c.requires in
    let k = c.field_line_at-first.ensures in
    let g = c.storage_line-inner.ensures i t es f in
    can_put c.args.tree f k g _ c.field_columns-own.ensures

pub overflow_add-result : goal.overflow_add-result
overflow_add-result c =
    let (i, t, es, f) = c.requires in
    omega (arith, passed_few c.args.tree f (c.storage_line-inner.ensures i t es f))

pub row_below-row-requires-in-Becomes : goal.row_below-row-requires-in-Becomes
row_below-row-requires-in-Becomes c =
    let (i, t, es, f) = c.requires in
    let k = c.field_line_at-first.ensures in
    let g = c.storage_line-inner.ensures i t es f in
    row_there c.args.tree f g

pub put_kind_line-len-requires : goal.put_kind_line-len-requires
put_kind_line-len-requires c =
    let (i, t, es, f) = c.requires in
    let k = c.field_line_at-first.ensures in
    let g = c.storage_line-inner.ensures i t es f in
    can_put_kind c.args.tree f k g _ c.field_columns-own.ensures

pub overflow_add-result-in-Becomes : goal.overflow_add-result-in-Becomes
overflow_add-result-in-Becomes c =
    let (i, t, es, f) = c.requires in
    omega (arith, passed_few c.args.tree f (c.storage_line-inner.ensures i t es f))

pub returns-in-Undefined : goal.returns-in-Undefined
returns-in-Undefined c =
    λ i t es f.
    let k = c.field_line_at-first.ensures in
    let g = c.storage_line-inner.ensures i t es f in
    undefined c.args.tree f k g _ c.field_columns-own.ensures c.args.change (sym c.in-Undefined.is ∙ c.line_change.ensures)

pub returns-in-Stays : goal.returns-in-Stays
returns-in-Stays c =
    λ i t es f.
    let k = c.field_line_at-first.ensures in
    let g = c.storage_line-inner.ensures i t es f in
    stayed c.args.tree f k g _ c.field_columns-own.ensures c.args.change (sym c.in-Stays.is ∙ c.line_change.ensures) _ c.row_below-row.ensures _ _ _ c.put_line-len.ensures

pub returns-in-Becomes : goal.returns-in-Becomes
returns-in-Becomes c =
    λ i t es f.
    let k = c.field_line_at-first.ensures in
    let g = c.storage_line-inner.ensures i t es f in
    became c.args.tree f k g _ c.field_columns-own.ensures c.args.change _ (sym c.in-Becomes.is ∙ c.line_change.ensures) _ c.row_below-row-in-Becomes.ensures _ _ _ c.put_kind_line-len.ensures
