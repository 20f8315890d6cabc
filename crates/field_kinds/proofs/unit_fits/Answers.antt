-- `unit_fits` meets its contract, test by test. Assumes nothing.
use borrow.Author.Tests.{le-leb, lt-leb}
use Rattle.field_kinds.proofs.unit_fits.Goals as goal

pub returns-then-kind-lt-TIME32 : goal.returns-then-kind-lt-TIME32
returns-then-kind-lt-TIME32 c = rw (lt-leb 18 _ c.if-kind-lt-TIME32.true)

pub returns-then-kind-gt-INTERVAL : goal.returns-then-kind-gt-INTERVAL
returns-then-kind-gt-INTERVAL c = rw (le-leb 18 _ c.if-kind-lt-TIME32.false, lt-leb _ 21 c.if-kind-gt-INTERVAL.true)

pub returns : goal.returns
returns c = rw (le-leb 18 _ c.if-kind-lt-TIME32.false, le-leb _ 21 c.if-kind-gt-INTERVAL.false)
