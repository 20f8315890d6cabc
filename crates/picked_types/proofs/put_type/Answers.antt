-- `put_type` meets its contract: the heading, the first line and the copy are the sheet (`sheet_put`). Assumes nothing.
use mathlib.Core.Path.{refl}
use Rattle.mapping_line.proofs.PutLaws.{part_short}
use Rattle.picked_types.proofs.SheetLaws.{below_within, can_put_line, line_short, sheet_put}
use Rattle.mapping_calls.proofs.ConversionLaws.{heading_short}
use native.Mathlib.Omega.{arith}
use Rattle.picked_types.proofs.put_type.Goals as goal

pub put_line-len-requires : goal.put_line-len-requires
put_line-len-requires c = can_put_line c.requires.1 c.args.own c.requires.2

pub overflow_add-head : goal.overflow_add-head
overflow_add-head c = omega (arith, c.put_heading-head.ensures.0, heading_short, line_short c.requires.1 c.args.own c.requires.2.0 c.requires.2.1 _ c.put_line-len.new.out c.put_line-len.ensures)

pub slice_bounds-put_at-count : goal.slice_bounds-put_at-count
slice_bounds-put_at-count c = omega (arith, below_within c.requires.1)

pub slice_bounds-put_at-start : goal.slice_bounds-put_at-start
slice_bounds-put_at-start c = omega (arith, below_within c.requires.1)

pub put_at-requires : goal.put_at-requires
put_at-requires c = omega (arith, c.put_heading-head.ensures.0, heading_short, line_short c.requires.1 c.args.own c.requires.2.0 c.requires.2.1 _ c.put_line-len.new.out c.put_line-len.ensures, part_short c.args.s.now c.args.t.line.end c.args.t.end, c.requires.1.short)

pub returns : goal.returns
returns c =
    let a = c.args in
    λ t j g says. sheet_put g a.own j says _ c.put_line-len.new.out c.put_line-len.ensures a.out.now c.put_heading-head.ensures c.within-w.ensures refl c.put_at.ensures
