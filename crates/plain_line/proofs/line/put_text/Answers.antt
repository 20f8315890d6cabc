-- `put_text` meets its contract, case by case. Assumes nothing.
use mathlib.Core.Path.{sym, subst}
use mathlib.Core.List.{[], ◌∷◌}
use native.Mathlib.Omega.{arith}
use Rattle.buffer.specs.Over.{PutAt}
use Rattle.buffer.proofs.OverLaws.{none_yet, and_then}
use Rattle.field_line.specs.Columns.{column}
use Rattle.plain_line.specs.PlainLines.{column_in, counted_ids, changed_text}
use Rattle.plain_line.specs.declared.line.TextChange.{TextChange}
use Rattle.plain_line.proofs.IdsLaws.{ids_short}
use Rattle.plain_line.proofs.line.put_text.Goals as goal

pub put_byte-requires : goal.put_byte-requires
put_byte-requires c = omega (arith, c.put_ids-end.ensures.0, ids_short c.args.l.children (omega (arith, c.requires.1)), c.requires.1)

pub returns-in-Kept : goal.returns-in-Kept
returns-in-Kept c =
    let a = c.args in
    let p = c.put_column in
    subst (λ (y : TextChange). PutAt a.at (column (changed_text y (column_in a.s.now a.l.text) a.l.children)) p.result a.out.now p.new.out) (sym c.in-Kept.is) p.ensures

pub returns-in-Absent : goal.returns-in-Absent
unfolding column
returns-in-Absent c =
    let a = c.args in
    let p = c.put_at in
    subst (λ (y : TextChange). PutAt a.at (column (changed_text y (column_in a.s.now a.l.text) a.l.children)) p.result a.out.now p.new.out) (sym c.in-Absent.is) p.ensures

pub returns-in-Counted : goal.returns-in-Counted
unfolding column
returns-in-Counted c =
    let a = c.args in
    let p = c.put_byte in
    let w = and_then (32 ∷ []) (and_then (counted_ids a.l.children) (none_yet a.at a.out.now) c.put_ids-end.ensures) p.ensures in
    subst (λ (y : TextChange). PutAt a.at (column (changed_text y (column_in a.s.now a.l.text) a.l.children)) p.result a.out.now p.new.out) (sym c.in-Counted.is) (w.place, w.holds)
