-- `line_change` meets its contract, test by test. Assumes nothing.
use borrow.Author.Tests.{eq-eqb, ne_eqb}
use Rattle.plain_line.proofs.line_change.Goals as goal

pub returns-then-not-inside : goal.returns-then-not-inside
returns-then-not-inside c = rw (c.if-not-inside.true)

pub returns-then-kind-eq-EXTENSION : goal.returns-then-kind-eq-EXTENSION
returns-then-kind-eq-EXTENSION c = rw (c.if-not-inside.false, eq-eqb _ 37 c.if-kind-eq-EXTENSION.true)

pub returns-then-kind-eq-DICTIONARY : goal.returns-then-kind-eq-DICTIONARY
returns-then-kind-eq-DICTIONARY c = rw (c.if-not-inside.false, ne_eqb _ 37 c.if-kind-eq-EXTENSION.false, eq-eqb _ 32 c.if-kind-eq-DICTIONARY.true)

pub returns : goal.returns
returns c = rw (c.if-not-inside.false, ne_eqb _ 37 c.if-kind-eq-EXTENSION.false, ne_eqb _ 32 c.if-kind-eq-DICTIONARY.false)
