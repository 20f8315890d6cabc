-- `put_flag` meets its contract: the fixed bytes are the column. Assumes nothing.
use Rattle.field_line.proofs.ColumnLaws.{flag_column}
use Rattle.node.proofs.name.put_flag.Goals as goal

pub returns-then-flag : goal.returns-then-flag
returns-then-flag c = rw (flag_column c.args.flag, c.if-flag.true) c.put_at.ensures

pub returns : goal.returns
returns c = rw (flag_column c.args.flag, c.if-flag.false) c.put_at-2.ensures
