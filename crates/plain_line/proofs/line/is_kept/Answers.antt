-- `is_kept` meets its contract, case by case. Assumes nothing.
use Rattle.plain_line.specs.PlainLines.{column_in}
use Rattle.plain_line.proofs.LineLaws.{kept_tested, absent_tested, counted_tested}
use Rattle.plain_line.proofs.line.is_kept.Goals as goal

pub returns-in-Kept : goal.returns-in-Kept
returns-in-Kept c =
    let a = c.args in
    kept_tested a.change (column_in a.s.now a.l.pairs) c.is_column.result c.in-Kept.is c.is_column.ensures

pub returns-in-Absent : goal.returns-in-Absent
returns-in-Absent c =
    let a = c.args in
    absent_tested a.change (column_in a.s.now a.l.pairs) c.in-Absent.is

pub returns-in-Counted : goal.returns-in-Counted
returns-in-Counted c =
    let a = c.args in
    counted_tested a.change (column_in a.s.now a.l.pairs) c.in-Counted.is
