-- `copy_one` meets its contract. Assumes nothing.
use Rattle.copy_part.proofs.CopyLaws.{copying_none, copying_all, copying_last}
use Rattle.copy_part.proofs.copy_one.Goals as goal

pub returns-then-from-end : goal.returns-then-from-end
returns-then-from-end c = copying_last (copying_none c.requires.0) c.if-from-end.true c.requires.1

pub returns : goal.returns
returns c = copying_all (copying_none c.requires.0) c.if-from-end.false
