-- `put_rest` meets its contract: the name, then the tail. Assumes nothing.
use native.Mathlib.Omega.{arith}
use Rattle.buffer.proofs.OverLaws.{none_yet, and_then}
use Rattle.put_metadata.specs.Block.{metadata_column}
use Rattle.put_schema_line.specs.Lines.{name_piece, tail_piece, rest_piece}
use Rattle.put_schema_line.proofs.LineLaws.{name_short}
use Rattle.put_schema_line.proofs.put_rest.Goals as goal

pub put_tail-requires : goal.put_tail-requires
put_tail-requires c =
    let a = c.args in
    let h = c.requires in
    record {
      column = h.tail.column;
      short = h.tail.short;
      extended = h.tail.extended;
      metadata = h.tail.metadata;
      low = omega (arith, h.named.low, h.named.named.short, c.put_name-after.ensures.0, name_short a.name.now h.named.named);
    }

pub returns : goal.returns
unfolding rest_piece
returns c =
    let a = c.args in
    let v1 = and_then (name_piece a.name.now) (none_yet a.at a.out.now) c.put_name-after.ensures in
    let v2 = and_then (tail_piece a.n (metadata_column a.n.big a.pairs.now a.extension.now a.more.now)) v1 c.put_tail.ensures in
    (v2.place, v2.holds)
