-- `is_short` meets its contract: in each range of kinds the definition is this. Assumes nothing.
use Rattle.field_leaf.proofs.KindLaws.{short_low, short_middle, short_text_lem, short_last}
use Rattle.field_leaf.proofs.is_short.Goals as goal

pub returns-then-kind-le-FLOAT64 : goal.returns-then-kind-le-FLOAT64
returns-then-kind-le-FLOAT64 c = short_low c.args.kind c.if-kind-le-FLOAT64.true

pub returns-then-kind-lt-LARGE_BINARY : goal.returns-then-kind-lt-LARGE_BINARY
returns-then-kind-lt-LARGE_BINARY c = short_middle c.args.kind c.if-kind-le-FLOAT64.false c.if-kind-lt-LARGE_BINARY.true

pub returns-then-kind-le-LARGE_UTF8 : goal.returns-then-kind-le-LARGE_UTF8
returns-then-kind-le-LARGE_UTF8 c = short_text_lem c.args.kind c.if-kind-lt-LARGE_BINARY.false c.if-kind-le-LARGE_UTF8.true

pub returns : goal.returns
returns c = short_last c.args.kind c.if-kind-le-LARGE_UTF8.false
