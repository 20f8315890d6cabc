-- `put_changed` meets its contract: a chain of five writes. Assumes nothing.
use native.Mathlib.Omega.{arith}
use Rattle.buffer.proofs.OverLaws.{none_yet, and_then}
use Rattle.field_line.specs.Columns.{column, kind_piece, end_piece}
use Rattle.field_line.proofs.LengthLaws.{column_length_lem, kind_short}
use Rattle.plain_line.specs.PlainLines.{column_in, changed_text, own_text, changed_line}
use Rattle.plain_line.proofs.LineLaws.{part_there, part_short, text_short, own_short}
use Rattle.plain_line.proofs.line.put_changed.Goals as goal

pub put_text-next-requires : goal.put_text-next-requires
put_text-next-requires c =
    let a = c.args in
    let h = c.requires.1 in
    (part_there h.there.shows.text, omega (arith, h.few, h.short, c.put_kind-text.ensures.0, (kind_short c.args.l.kind c.args.l.p c.args.l.q (omega arith) (omega arith) (omega arith))))

pub put_column-own-requires : goal.put_column-own-requires
put_column-own-requires c =
    let a = c.args in
    let h = c.requires.1 in
    (part_there h.there.shows.more, omega (arith, h.few, h.short, c.put_kind-text.ensures.0, (kind_short c.args.l.kind c.args.l.p c.args.l.q (omega arith) (omega arith) (omega arith)), c.put_text-next.ensures.0, column_length_lem (changed_text a.change (column_in a.s.now a.l.text) a.l.children), text_short a.change (column_in a.s.now a.l.text) a.l.children (omega (arith, h.few, h.short)), part_short a.s.now a.l.text))

pub put_own-children-requires : goal.put_own-children-requires
put_own-children-requires c =
    let a = c.args in
    let h = c.requires.1 in
    (part_there h.there.shows.name, part_there h.there.shows.pairs, omega (arith, h.few, h.short, c.put_kind-text.ensures.0, (kind_short c.args.l.kind c.args.l.p c.args.l.q (omega arith) (omega arith) (omega arith)), c.put_text-next.ensures.0, column_length_lem (changed_text a.change (column_in a.s.now a.l.text) a.l.children), text_short a.change (column_in a.s.now a.l.text) a.l.children (omega (arith, h.few, h.short)), part_short a.s.now a.l.text, c.put_column-own.ensures.0, column_length_lem (column_in a.s.now a.l.more), part_short a.s.now a.l.more))

pub put_end-requires : goal.put_end-requires
put_end-requires c =
    let a = c.args in
    let h = c.requires.1 in
    omega (arith, h.few, h.short, c.put_kind-text.ensures.0, (kind_short c.args.l.kind c.args.l.p c.args.l.q (omega arith) (omega arith) (omega arith)), c.put_text-next.ensures.0, column_length_lem (changed_text a.change (column_in a.s.now a.l.text) a.l.children), text_short a.change (column_in a.s.now a.l.text) a.l.children (omega (arith, h.few, h.short)), part_short a.s.now a.l.text, c.put_column-own.ensures.0, column_length_lem (column_in a.s.now a.l.more), part_short a.s.now a.l.more, c.put_own-children.ensures.0, own_short a.s.now a.l)

pub returns : goal.returns
unfolding changed_line
returns c =
    let a = c.args in
    let kind = and_then (kind_piece a.l.kind a.l.p a.l.q) (none_yet 0 a.out.now) c.put_kind-text.ensures in
    let text = and_then (column (changed_text a.change (column_in a.s.now a.l.text) a.l.children)) kind c.put_text-next.ensures in
    let more = and_then (column (column_in a.s.now a.l.more)) text c.put_column-own.ensures in
    let own = and_then (own_text a.s.now a.l) more c.put_own-children.ensures in
    let w = and_then (end_piece a.l.children) own c.put_end.ensures in
    (w.place, w.holds)
