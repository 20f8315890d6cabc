-- `has_one` meets its contract, test by test. Assumes nothing.
use borrow.Author.Tests.{eq-eqb, ne_eqb}
use Rattle.field_kinds.proofs.has_one.Goals as goal

pub returns-then-kind-eq-LIST : goal.returns-then-kind-eq-LIST
returns-then-kind-eq-LIST c = rw (eq-eqb _ 27 c.if-kind-eq-LIST.true)

pub returns-then-kind-eq-FIXED_SIZE_LIST : goal.returns-then-kind-eq-FIXED_SIZE_LIST
returns-then-kind-eq-FIXED_SIZE_LIST c = rw (ne_eqb _ 27 c.if-kind-eq-LIST.false, eq-eqb _ 28 c.if-kind-eq-FIXED_SIZE_LIST.true)

pub returns-then-kind-eq-LARGE_LIST : goal.returns-then-kind-eq-LARGE_LIST
returns-then-kind-eq-LARGE_LIST c = rw (ne_eqb _ 27 c.if-kind-eq-LIST.false, ne_eqb _ 28 c.if-kind-eq-FIXED_SIZE_LIST.false, eq-eqb _ 29 c.if-kind-eq-LARGE_LIST.true)

pub returns-then-kind-eq-MAP : goal.returns-then-kind-eq-MAP
returns-then-kind-eq-MAP c = rw (ne_eqb _ 27 c.if-kind-eq-LIST.false, ne_eqb _ 28 c.if-kind-eq-FIXED_SIZE_LIST.false, ne_eqb _ 29 c.if-kind-eq-LARGE_LIST.false, eq-eqb _ 31 c.if-kind-eq-MAP.true)

pub returns : goal.returns
returns c = rw (ne_eqb _ 27 c.if-kind-eq-LIST.false, ne_eqb _ 28 c.if-kind-eq-FIXED_SIZE_LIST.false, ne_eqb _ 29 c.if-kind-eq-LARGE_LIST.false, ne_eqb _ 31 c.if-kind-eq-MAP.false) c.is_bare_below.ensures
