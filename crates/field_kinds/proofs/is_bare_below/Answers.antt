-- `is_bare_below` meets its contract, test by test. Assumes nothing.
use borrow.Author.Tests.{eq-eqb, ne_eqb}
use Rattle.field_kinds.proofs.is_bare_below.Goals as goal

pub returns-then-kind-eq-DICTIONARY : goal.returns-then-kind-eq-DICTIONARY
returns-then-kind-eq-DICTIONARY c = rw (eq-eqb _ 32 c.if-kind-eq-DICTIONARY.true)

pub returns : goal.returns
returns c = rw (ne_eqb _ 32 c.if-kind-eq-DICTIONARY.false)
