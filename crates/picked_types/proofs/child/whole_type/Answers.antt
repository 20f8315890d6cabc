-- `whole_type` meets its contract: what is below the line is skipped, and has no more levels than there may be. Assumes nothing.
use mathlib.Core.Path.{refl}
use Rattle.picked_types.proofs.PickLaws.{below_there, whole_deep, whole_picked}
use Rattle.picked_types.proofs.child.whole_type.Goals as goal

pub field_line_at-line-requires : goal.field_line_at-line-requires
field_line_at-line-requires c =
    let p = c.requires in ((p.0, p.1), p.2, p.3.stands)

pub skip_row-requires : goal.skip_row-requires
skip_row-requires c = below_there c.requires.3 c.field_line_at-line.ensures c.is_extension-inside.ensures

pub returns-in_err-end : goal.returns-in_err-end
returns-in_err-end c = rw c.from_residual.ensures (λ i t es f. absurd (whole_deep f c.field_line_at-line.ensures c.is_extension-inside.ensures c.skip_row.result c.skip_row.ensures c.in_err-end.was))

pub returns : goal.returns
returns c = λ i t es f. (t, refl, whole_picked f c.field_line_at-line.ensures c.is_extension-inside.ensures c.skip_row.result c.skip_row.ensures _ c.in_ok-end.was)
