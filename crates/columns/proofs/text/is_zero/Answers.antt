-- `text::is_zero` meets its contract. Assumes nothing.
use Rattle.columns.proofs.TextLaws.{zero_first, zero_second}
use Rattle.columns.proofs.text.is_zero.Goals as goal

pub returns-then-a-ne48 : goal.returns-then-a-ne48
returns-then-a-ne48 c = zero_first c.args.a c.args.b c.if-a-ne48.true

pub returns : goal.returns
returns c = zero_second c.args.a c.args.b c.if-a-ne48.false
