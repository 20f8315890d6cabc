-- `text_content` meets its contract, test by test. Assumes nothing.
use borrow.Author.Tests.{eq-eqb, ne_eqb}
use Rattle.field_kinds.proofs.text_content.Goals as goal

pub returns-then-kind-eq-TIMESTAMP : goal.returns-then-kind-eq-TIMESTAMP
returns-then-kind-eq-TIMESTAMP c = rw (eq-eqb _ 15 c.if-kind-eq-TIMESTAMP.true)

pub returns-then-kind-eq-EXTENSION : goal.returns-then-kind-eq-EXTENSION
returns-then-kind-eq-EXTENSION c = rw (ne_eqb _ 15 c.if-kind-eq-TIMESTAMP.false, eq-eqb _ 37 c.if-kind-eq-EXTENSION.true)

pub returns-then-kind-eq-UNION : goal.returns-then-kind-eq-UNION
returns-then-kind-eq-UNION c = rw (ne_eqb _ 15 c.if-kind-eq-TIMESTAMP.false, ne_eqb _ 37 c.if-kind-eq-EXTENSION.false, eq-eqb _ 41 c.if-kind-eq-UNION.true)

pub returns : goal.returns
returns c = rw (ne_eqb _ 15 c.if-kind-eq-TIMESTAMP.false, ne_eqb _ 37 c.if-kind-eq-EXTENSION.false, ne_eqb _ 41 c.if-kind-eq-UNION.false)
