-- `text_change` meets its contract, test by test. Assumes nothing.
use mathlib.Core.Path.{sym, ◌∙◌}
use Rattle.plain_line.specs.PlainLines.{column_in}
use Rattle.plain_line.proofs.LineLaws.{zone_absent, zone_kept, ids_counted, ids_kept, text_kept}
use Rattle.plain_line.proofs.line.text_change.Goals as goal

pub returns-then-is_column : goal.returns-then-is_column
returns-then-is_column c =
    let a = c.args in
    zone_absent a.l.kind (column_in a.s.now a.l.text) c.if-l-eq-TIMESTAMP.true (sym c.is_column.ensures ∙ c.if-is_column.true)

pub returns-then-l-eq-TIMESTAMP : goal.returns-then-l-eq-TIMESTAMP
returns-then-l-eq-TIMESTAMP c =
    let a = c.args in
    zone_kept a.l.kind (column_in a.s.now a.l.text) c.if-l-eq-TIMESTAMP.true (sym c.is_column.ensures ∙ c.if-is_column.false)

pub returns-then-is_column-2 : goal.returns-then-is_column-2
returns-then-is_column-2 c =
    let a = c.args in
    ids_counted a.l.kind (column_in a.s.now a.l.text) c.if-l-eq-UNION.true (sym c.is_column-then-l-eq-UNION.ensures ∙ c.if-is_column-2.true)

pub returns-then-l-eq-UNION : goal.returns-then-l-eq-UNION
returns-then-l-eq-UNION c =
    let a = c.args in
    ids_kept a.l.kind (column_in a.s.now a.l.text) c.if-l-eq-UNION.true (sym c.is_column-then-l-eq-UNION.ensures ∙ c.if-is_column-2.false)

pub returns : goal.returns
returns c =
    let a = c.args in
    text_kept a.l.kind (column_in a.s.now a.l.text) c.if-l-eq-TIMESTAMP.false c.if-l-eq-UNION.false
