-- `put_any` meets its contract: six pieces, one after the other. Assumes nothing.
use mathlib.Core.List.{[], ◌∷◌}
use native.Mathlib.Omega.{arith}
use Rattle.sheets.specs.Number.{decimal}
use Rattle.buffer.proofs.OverLaws.{none_yet, and_then}
use Rattle.field_line.specs.Columns.{column, end_piece}
use Rattle.field_line.proofs.LengthLaws.{number_short}
use Rattle.put_metadata.specs.Block.{metadata_column}
use Rattle.put_metadata.proofs.SizeLaws.{metadata_size}
use Rattle.put_schema_line.specs.Lines.{tail_piece}
use Rattle.put_schema_line.proofs.put_any.Goals as goal

pub put_metadata-c-requires : goal.put_metadata-c-requires
put_metadata-c-requires c =
    let h = c.requires in
    record {
      column = h.column;
      short = h.short;
      named = h.extended;
      metadata = h.metadata;
      low = omega (arith, h.low, number_short c.args.n.flags (omega arith), c.put_byte-a.ensures.0, c.put_number-b.ensures.0);
    }

pub put_byte-d-requires : goal.put_byte-d-requires
put_byte-d-requires c =
    let h = c.requires in
    omega (arith, h.low, h.short, h.extended.short, h.metadata.short, metadata_size c.args.n.big c.args.pairs.now c.args.extension.now c.args.more.now h.column h.extended h.metadata, number_short c.args.n.flags (omega arith), number_short c.args.n.children (omega arith), c.put_byte-a.ensures.0, c.put_number-b.ensures.0, c.put_metadata-c.ensures.0)

pub put_number-e-requires : goal.put_number-e-requires
put_number-e-requires c =
    let h = c.requires in
    omega (arith, h.low, h.short, h.extended.short, h.metadata.short, metadata_size c.args.n.big c.args.pairs.now c.args.extension.now c.args.more.now h.column h.extended h.metadata, number_short c.args.n.flags (omega arith), number_short c.args.n.children (omega arith), c.put_byte-a.ensures.0, c.put_number-b.ensures.0, c.put_metadata-c.ensures.0, c.put_byte-d.ensures.0)

pub put_end-requires : goal.put_end-requires
put_end-requires c =
    let h = c.requires in
    omega (arith, h.low, h.short, h.extended.short, h.metadata.short, metadata_size c.args.n.big c.args.pairs.now c.args.extension.now c.args.more.now h.column h.extended h.metadata, number_short c.args.n.flags (omega arith), number_short c.args.n.children (omega arith), c.put_byte-a.ensures.0, c.put_number-b.ensures.0, c.put_metadata-c.ensures.0, c.put_byte-d.ensures.0, c.put_number-e.ensures.0)

pub returns : goal.returns
unfolding tail_piece
returns c =
    let a = c.args in
    let v1 = and_then (32 ∷ []) (none_yet a.at a.out.now) c.put_byte-a.ensures in
    let v2 = and_then (column (decimal a.n.flags)) v1 c.put_number-b.ensures in
    let v3 = and_then (metadata_column a.n.big a.pairs.now a.extension.now a.more.now) v2 c.put_metadata-c.ensures in
    let v4 = and_then (32 ∷ []) v3 c.put_byte-d.ensures in
    let v5 = and_then (column (decimal a.n.children)) v4 c.put_number-e.ensures in
    let v6 = and_then (end_piece a.n.dictionary) v5 c.put_end.ensures in
    (v6.place, v6.holds)
