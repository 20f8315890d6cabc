-- `own::bare_own` meets its contract. Assumes nothing.
use Rattle.read_field_line.proofs.own.bare_own.Goals as goal

pub returns : goal.returns
returns c = rw (c.between.ensures, c.between-2.ensures)
