-- `lists::pair_at` meets its contract: ASCII pairs up to `=`, and after it up to a comma or the end, are a pair; any other is read as before.
-- Assumes nothing.
use native.Mathlib.Omega.{arith}
use Rattle.field_columns.proofs.PairAtLaws.{ascii_pair}
use Rattle.field_columns.proofs.lists.pair_at.Goals as goal

pub returns-else-c-e-ne44 : goal.returns-else-c-e-ne44
returns-else-c-e-ne44 c = ascii_pair c.args.c.now c.args.at _ _ c.requires c.pairs_from-k.ensures (omega arith) c.if-c-k-ne61.false c.pairs_from-e.ensures (λ l. c.if-c-e-ne44.false)

pub returns-else-e-c : goal.returns-else-e-c
returns-else-e-c c = ascii_pair c.args.c.now c.args.at _ _ c.requires c.pairs_from-k.ensures (omega arith) c.if-c-k-ne61.false c.pairs_from-e.ensures (λ l. absurd (omega arith))
