-- `is_copied` meets its contract, test by test. Assumes nothing.
use Rattle.put_schema_leaf.proofs.PutLaws.{is_date32, not_date32}
use Rattle.put_schema_leaf.proofs.is_copied.Goals as goal

pub returns-then-kind-eq-DATE32 : goal.returns-then-kind-eq-DATE32
returns-then-kind-eq-DATE32 c =
    let a = c.args in is_date32 a.dates a.kind c.if-dates.false c.if-kind-eq-DATE32.true

pub returns : goal.returns
returns c =
    let a = c.args in not_date32 a.dates a.kind c.if-dates.false c.if-kind-eq-DATE32.false
