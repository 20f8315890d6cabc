-- `put_bare` meets its contract: the fixed bytes are the three columns. Assumes nothing.
use Rattle.field_line.specs.Columns.{column, own_piece}
use Rattle.field_line.proofs.put_bare.Goals as goal

pub returns : goal.returns
unfolding column own_piece
returns c = c.put_at.ensures
