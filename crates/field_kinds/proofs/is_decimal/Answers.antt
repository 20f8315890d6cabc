-- `is_decimal` meets its contract, test by test. Assumes nothing.
use borrow.Author.Tests.{eq-eqb, ne_eqb}
use Rattle.field_kinds.proofs.is_decimal.Goals as goal

pub returns-then-kind-eq-DECIMAL : goal.returns-then-kind-eq-DECIMAL
returns-then-kind-eq-DECIMAL c = rw (eq-eqb _ 33 c.if-kind-eq-DECIMAL.true)

pub returns-then-kind-eq-DECIMAL32 : goal.returns-then-kind-eq-DECIMAL32
returns-then-kind-eq-DECIMAL32 c = rw (ne_eqb _ 33 c.if-kind-eq-DECIMAL.false, eq-eqb _ 34 c.if-kind-eq-DECIMAL32.true)

pub returns-then-kind-eq-DECIMAL64 : goal.returns-then-kind-eq-DECIMAL64
returns-then-kind-eq-DECIMAL64 c = rw (ne_eqb _ 33 c.if-kind-eq-DECIMAL.false, ne_eqb _ 34 c.if-kind-eq-DECIMAL32.false, eq-eqb _ 35 c.if-kind-eq-DECIMAL64.true)

pub returns : goal.returns
returns c = rw (ne_eqb _ 33 c.if-kind-eq-DECIMAL.false, ne_eqb _ 34 c.if-kind-eq-DECIMAL32.false, ne_eqb _ 35 c.if-kind-eq-DECIMAL64.false)
