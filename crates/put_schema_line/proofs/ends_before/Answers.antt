-- `ends_before` meets its contract: the test for no byte is the first of the two. Assumes nothing.
use borrow.Author.Tests.{eq-eqb, ne_eqb}
use Rattle.put_schema_line.proofs.ends_before.Goals as goal

pub returns-then-room-eq0 : goal.returns-then-room-eq0
returns-then-room-eq0 c = rw (eq-eqb c.args.room 0 c.if-room-eq0.true)

pub returns : goal.returns
returns c = rw (ne_eqb c.args.room 0 c.if-room-eq0.false)
