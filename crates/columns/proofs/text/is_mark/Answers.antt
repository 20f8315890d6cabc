-- `text::is_mark` meets its contract. Assumes nothing.
use Rattle.columns.proofs.TextLaws.{mark_null, mark_other}
use Rattle.columns.proofs.text.is_mark.Goals as goal

pub returns-then-b-eq126 : goal.returns-then-b-eq126
returns-then-b-eq126 c = mark_null _ c.if-b-eq126.true

pub returns : goal.returns
returns c = mark_other _ c.if-b-eq126.false
