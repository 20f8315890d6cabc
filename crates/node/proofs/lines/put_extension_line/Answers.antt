-- `put_extension_line` meets its contract: a chain of three writes. Assumes nothing.
use native.Mathlib.Omega.{arith}
use Rattle.hexadecimal.specs.Hex.{bytes_of}
use Rattle.buffer.proofs.OverLaws.{none_yet, and_then}
use Rattle.field_line.specs.Columns.{end_piece}
use Rattle.node.specs.Pieces.{shown_text, extension_piece, extension_text}
use Rattle.node.proofs.LineLaws.{shown_short, extension_short}
use Rattle.node.proofs.lines.put_extension_line.Goals as goal

pub put_own-b-requires : goal.put_own-b-requires
put_own-b-requires c = (omega (arith, c.put_extension-a.ensures.0, extension_short c.args.shown.big c.args.m.now c.requires.1.is_text c.args.d, c.requires.1.short), c.requires.0)

pub put_end-requires : goal.put_end-requires
put_end-requires c =
    let a = c.args in
    omega (arith, c.put_extension-a.ensures.0, c.put_own-b.ensures.0, extension_short a.shown.big a.m.now c.requires.1.is_text a.d, shown_short a.name.now a.m.now a.entries.now a.shown c.requires.0, c.requires.0.named, c.requires.1.short)

pub returns : goal.returns
unfolding extension_text
returns c =
    let a = c.args in
    let extension = and_then (extension_piece a.shown.big (bytes_of a.m.now) a.d) (none_yet 0 a.out.now) c.put_extension-a.ensures in
    let own = and_then (shown_text a.name.now a.m.now a.entries.now a.shown) extension c.put_own-b.ensures in
    let w = and_then (end_piece 1) own c.put_end.ensures in
    (w.place, w.holds)
