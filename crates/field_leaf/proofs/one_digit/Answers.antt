-- `one_digit` meets its contract: a law for each way out. Assumes nothing.
use Rattle.field_leaf.proofs.KindLaws.{no_digit, past_digit, one_kind}
use Rattle.field_leaf.proofs.one_digit.Goals as goal

pub returns-then-a-lt48 : goal.returns-then-a-lt48
returns-then-a-lt48 c = no_digit c.args.a c.if-a-lt48.true

pub returns-then-a-gt57 : goal.returns-then-a-gt57
returns-then-a-gt57 c = past_digit c.args.a c.if-a-lt48.false c.if-a-gt57.true

pub returns : goal.returns
returns c = one_kind c.args.a _ c.if-a-lt48.false c.if-a-gt57.false c.wide.ensures.0
