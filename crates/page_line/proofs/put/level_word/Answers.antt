-- `level_word` meets its contract, of a level of one digit (`short_level_lem`) and of two (`long_level_lem`). Assumes nothing.
use Rattle.page_line.proofs.PutLaws.{short_level_lem, long_level_lem}
use Rattle.page_line.proofs.put.level_word.Goals as goal

pub returns-then-level-lt10 : goal.returns-then-level-lt10
returns-then-level-lt10 c = short_level_lem c.args.level c.if-level-lt10.true

pub returns : goal.returns
returns c = long_level_lem c.args.level c.if-level-lt10.false c.requires
