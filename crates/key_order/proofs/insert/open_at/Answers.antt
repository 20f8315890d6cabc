-- `open_at` meets its contract: the part from j to n + 1 comes back shifted by one. Assumes nothing.
use mathlib.Core.Path.{refl}
use Rattle.key_order.proofs.InsertLaws.{opened}
use Rattle.key_order.proofs.insert.open_at.Goals as goal

pub returns : goal.returns
returns c = (refl, opened c.args.out.now c.args.j c.args.n c.args.v _ c.requires.0 c.requires.1 c.shift_in.ensures)
