-- `begin_plain` meets its contract: a law for each way of a line. Assumes nothing.
use mathlib.Core.Path.{sym, ◌∙◌}
use Rattle.line_below.proofs.BelowLaws.{has_level}
use Rattle.plain_line.proofs.BeginLaws.{line_here, vanished, stayed}
use Rattle.plain_line.proofs.begin_plain.Goals as goal

pub row_below-row-requires : goal.row_below-row-requires
row_below-row-requires c = has_level c.args.s.now c.args.tree c.requires

pub begin_index-requires : goal.begin_index-requires
begin_index-requires c = record { type = c.requires; line = c.field_line_at-l.ensures; change = sym c.line_change.ensures ∙ c.in-BecomesIndex.is }

pub row_below-row-requires-in-Stays : goal.row_below-row-requires-in-Stays
row_below-row-requires-in-Stays c = has_level c.args.s.now c.args.tree c.requires

pub put_line-len-requires : goal.put_line-len-requires
put_line-len-requires c =
    let l = c.field_line_at-l in
    line_here c.args.s.now c.args.tree c.requires l.result l.ensures

pub returns-in-Vanishes : goal.returns-in-Vanishes
returns-in-Vanishes c =
    let a = c.args in
    λ i t es f. vanished a.tree f c.field_line_at-l.ensures (sym c.line_change.ensures ∙ c.in-Vanishes.is) a.out.now c.row_below-row.result c.row_below-row.ensures

pub returns-in-BecomesIndex : goal.returns-in-BecomesIndex
returns-in-BecomesIndex c = c.begin_index.ensures

pub returns-in-Stays : goal.returns-in-Stays
returns-in-Stays c =
    let a = c.args in
    let p = c.put_line-len in
    let row = c.row_below-row-in-Stays in
    λ i t es f. stayed a.tree f c.field_line_at-l.ensures (sym c.line_change.ensures ∙ c.in-Stays.is) a.out.now p.new.out p.result p.ensures row.result row.ensures
