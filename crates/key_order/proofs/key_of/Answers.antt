-- `key_of` meets its contract: one case for a start past the text, one for an end past it, and one for a key that stands in it.
-- Assumes nothing.
use Rattle.key_order.proofs.KeyLaws.{key_past, key_cut, key_whole}
use Rattle.key_order.proofs.key_of.Goals as goal

pub returns-then-text-start : goal.returns-then-text-start
returns-then-text-start c =
    let a = c.args in key_past a.text.now a.e c.start_of-start.result c.end_of-end.result c.start_of-start.ensures c.end_of-end.ensures c.if-text-start.true

pub returns-then-text-end : goal.returns-then-text-end
returns-then-text-end c =
    let a = c.args in key_cut a.text.now a.e c.start_of-start.result c.end_of-end.result c.start_of-start.ensures c.end_of-end.ensures c.if-text-end.true

pub returns : goal.returns
returns c =
    let a = c.args in key_whole a.text.now a.e c.start_of-start.result c.end_of-end.result c.start_of-start.ensures c.end_of-end.ensures
