-- `text_of` meets its contract: by the length of the column. Assumes nothing.
use Rattle.schema_line.proofs.TextLaws.{text_one, text_whole}
use Rattle.schema_line.proofs.text_of.Goals as goal

pub returns-then-column-eq1 : goal.returns-then-column-eq1
returns-then-column-eq1 c = text_one c.args.column.now c.if-column-eq1.true

pub returns : goal.returns
returns c = text_whole c.args.column.now c.if-column-eq1.false
