-- `more_content` meets its contract, test by test. Assumes nothing.
use borrow.Author.Tests.{eq-eqb, ne_eqb}
use Rattle.field_kinds.proofs.more_content.Goals as goal

pub returns-then-kind-eq-EXTENSION : goal.returns-then-kind-eq-EXTENSION
returns-then-kind-eq-EXTENSION c = rw (eq-eqb _ 37 c.if-kind-eq-EXTENSION.true)

pub returns : goal.returns
returns c = rw (ne_eqb _ 37 c.if-kind-eq-EXTENSION.false)
