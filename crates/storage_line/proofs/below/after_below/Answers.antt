-- `after_below` meets its contract: the types below are skipped, and none has too many levels. Assumes nothing.
use Rattle.storage_line.proofs.BelowLaws.{skipped_to, skipped_deep}
use Rattle.storage_line.proofs.below.after_below.Goals as goal

pub returns-in_default : goal.returns-in_default
returns-in_default c =
    let a = c.args in skipped_deep a.s.now a.l a.levels c.skip_row.result c.skip_row.ensures c.in_default.is _

pub returns : goal.returns
returns c =
    let a = c.args in skipped_to a.s.now a.l a.levels c.skip_row.result c.skip_row.ensures _ c.in-Some.is
