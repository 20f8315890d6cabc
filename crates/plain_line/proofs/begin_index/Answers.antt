-- `begin_index` meets its contract: the laws of what is written, skipped and left. Assumes nothing.
use native.Mathlib.Omega.{arith}
use Rattle.line_below.proofs.BelowLaws.{has_level, values_there}
use Rattle.plain_line.proofs.BeginLaws.{index_small, never_deep, index_begun, index_short}
use Rattle.plain_line.proofs.begin_index.Goals as goal

pub put_index-len-requires : goal.put_index-len-requires
put_index-len-requires c = index_small c.args.tree c.requires.type.3 c.requires.line c.requires.change

pub overflow_sub-left : goal.overflow_sub-left
overflow_sub-left c = has_level c.args.s.now c.args.tree c.requires.type

pub skip_row-requires : goal.skip_row-requires
skip_row-requires c = values_there c.args.s.now c.args.tree c.requires.type c.args.l c.requires.line

pub returns-in_default : goal.returns-in_default
returns-in_default c =
    let k = c.skip_row in
    λ i t es f. absurd (never_deep c.args.tree f c.requires.line c.requires.change k.result k.ensures c.in_default.is)

pub returns : goal.returns
returns c =
    let k = c.skip_row in
    let p = c.put_index-len in
    let small = index_small c.args.tree c.requires.type.3 c.requires.line c.requires.change in
    λ i t es f. index_begun c.args.tree f c.requires.line c.requires.change k.result k.ensures _ c.in-Some.is c.args.out.now p.new.out p.result p.ensures (omega (arith, p.ensures.0, index_short c.args.l.p small))
