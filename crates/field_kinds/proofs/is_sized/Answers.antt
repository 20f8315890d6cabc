-- `is_sized` meets its contract, test by test. Assumes nothing.
use borrow.Author.Tests.{eq-eqb, ne_eqb}
use Rattle.field_kinds.proofs.is_sized.Goals as goal

pub returns-then-kind-eq-FIXED_SIZE_BINARY : goal.returns-then-kind-eq-FIXED_SIZE_BINARY
returns-then-kind-eq-FIXED_SIZE_BINARY c = rw (eq-eqb _ 23 c.if-kind-eq-FIXED_SIZE_BINARY.true)

pub returns-then-kind-eq-FIXED_SIZE_LIST : goal.returns-then-kind-eq-FIXED_SIZE_LIST
returns-then-kind-eq-FIXED_SIZE_LIST c = rw (ne_eqb _ 23 c.if-kind-eq-FIXED_SIZE_BINARY.false, eq-eqb _ 28 c.if-kind-eq-FIXED_SIZE_LIST.true)

pub returns : goal.returns
returns c = rw (ne_eqb _ 23 c.if-kind-eq-FIXED_SIZE_BINARY.false, ne_eqb _ 28 c.if-kind-eq-FIXED_SIZE_LIST.false) c.is_decimal.ensures
