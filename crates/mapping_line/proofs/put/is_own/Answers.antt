-- `is_own` meets its contract: by where the columns stand. Assumes nothing.
use Rattle.mapping_line.proofs.PutLaws.{starts_elsewhere, starts_here}
use Rattle.mapping_line.proofs.put.is_own.Goals as goal

pub returns-then-p-name : goal.returns-then-p-name
returns-then-p-name c =
    let a = c.args in starts_elsewhere a.l a.own _ c.in-Some.is c.if-p-name.true

pub returns-else-p-name : goal.returns-else-p-name
returns-else-p-name c =
    let a = c.args in starts_here a.l a.own _ c.in-Some.is c.if-p-name.false
