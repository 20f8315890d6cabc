-- `begin_page` meets its contract: the name's digits are a part of the sheet (`digits_shown`), and the line is begun (`page_begun`). Assumes nothing.
use mathlib.Core.Path.{ap, ◌∙◌}
use native.Mathlib.Omega.{arith}
use Rattle.sheets.specs.PageSteps.{level_of}
use Rattle.line_below.proofs.LineLaws.{line_small}
use Rattle.line_below.proofs.BelowLaws.{has_level}
use Rattle.page_line.proofs.BeginLaws.{digits_shown, page_begun}
use Rattle.page_line.proofs.begin_page.Goals as goal

pub slice_bounds-put_line-count : goal.slice_bounds-put_line-count
slice_bounds-put_line-count c = omega (arith, (digits_shown c.args.tree c.requires.3 c.field_line_at-l.ensures c.shown_name-name.ensures).order)

pub slice_bounds-put_line-start : goal.slice_bounds-put_line-start
slice_bounds-put_line-start c = omega (arith, (digits_shown c.args.tree c.requires.3 c.field_line_at-l.ensures c.shown_name-name.ensures).order)

pub slice_bounds-put_line-end : goal.slice_bounds-put_line-end
slice_bounds-put_line-end c = omega (arith, (digits_shown c.args.tree c.requires.3 c.field_line_at-l.ensures c.shown_name-name.ensures).within)

pub put_line-len-requires : goal.put_line-len-requires
put_line-len-requires c = (c.level_of-level.ensures.1, line_small c.requires.3.stands c.field_line_at-l.ensures)

pub row_below-row-requires : goal.row_below-row-requires
row_below-row-requires c = has_level c.args.s.now c.args.tree c.requires

pub returns : goal.returns
returns c =
    let a = c.args in
    let line = c.field_line_at-l.ensures in
    let level = c.level_of-level.ensures in
    let extension = c.is_extension-extension.ensures in
    λ i t es f.
    page_begun a.tree f line _ _ _ _ a.out.now _ _ (level.0 ∙ ap (level_of a.tree.levels a.tree.inside) extension) level.1
    c.mark_of-mark.ensures c.shown_name-name.ensures
    c.put_line-len.ensures c.row_below-row.ensures
