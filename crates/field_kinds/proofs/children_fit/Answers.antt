-- `children_fit` meets its contract, test by test. Assumes nothing.
use mathlib.Core.Path.{sym, ◌∙◌}
use borrow.Author.Tests.{eq-eqb, ne_eqb}
use Rattle.field_kinds.proofs.children_fit.Goals as goal

pub returns-then-kind-eq-STRUCT : goal.returns-then-kind-eq-STRUCT
returns-then-kind-eq-STRUCT c = rw (eq-eqb _ 30 c.if-kind-eq-STRUCT.true)

pub returns-then-kind-eq-UNION : goal.returns-then-kind-eq-UNION
returns-then-kind-eq-UNION c = rw (ne_eqb _ 30 c.if-kind-eq-STRUCT.false, eq-eqb _ 41 c.if-kind-eq-UNION.true)

pub returns-then-has_one : goal.returns-then-has_one
returns-then-has_one c = rw (ne_eqb _ 30 c.if-kind-eq-STRUCT.false, ne_eqb _ 41 c.if-kind-eq-UNION.false, sym c.has_one.ensures ∙ c.if-has_one.true)

pub returns : goal.returns
returns c = rw (ne_eqb _ 30 c.if-kind-eq-STRUCT.false, ne_eqb _ 41 c.if-kind-eq-UNION.false, sym c.has_one.ensures ∙ c.if-has_one.false)
