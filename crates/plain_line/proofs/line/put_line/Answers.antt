-- `put_line` meets its contract: the line as it stands, or its columns. Assumes nothing.
use mathlib.Core.Path.{sym, ◌∙◌}
use native.Mathlib.Omega.{arith}
use Rattle.plain_line.proofs.LineLaws.{part_there, put_kept, put_written}
use Rattle.plain_line.proofs.line.put_line.Goals as goal

pub text_change-change-requires : goal.text_change-change-requires
text_change-change-requires c = part_there c.requires.there.shows.text

pub is_kept-requires : goal.is_kept-requires
is_kept-requires c = part_there c.requires.there.shows.pairs

pub slice_bounds-put-count : goal.slice_bounds-put-count
slice_bounds-put-count c = omega (arith, c.requires.there.there.low)

pub slice_bounds-put-start : goal.slice_bounds-put-start
slice_bounds-put-start c = omega (arith, c.requires.there.there.low)

pub slice_bounds-put-end : goal.slice_bounds-put-end
slice_bounds-put-end c = omega (arith, c.requires.there.there.low, c.requires.there.there.high)

pub overflow_sub-result : goal.overflow_sub-result
overflow_sub-result c = omega (arith, c.requires.there.there.low)

pub returns-then-is_kept : goal.returns-then-is_kept
returns-then-is_kept c =
    let p = c.put in
    let change = c.text_change-change in
    put_kept c.requires change.result change.ensures (sym c.is_kept.ensures ∙ c.if-is_kept.true) c.args.out.now p.new.out p.ensures

pub put_changed-requires : goal.put_changed-requires
put_changed-requires c = (c.args.at, c.requires)

pub returns : goal.returns
returns c =
    let p = c.put_changed in
    let change = c.text_change-change in
    put_written c.requires change.result change.ensures (omega arith) (omega arith) (omega arith) c.args.out.now p.new.out p.result p.ensures
