-- `rest_of` meets its contract: one case for a key that has no more than it shares, and one for what stands after. Assumes nothing.
use Rattle.key_order.proofs.KeyLaws.{rest_none, rest_some}
use Rattle.key_order.proofs.rest_of.Goals as goal

pub returns-then-key-start : goal.returns-then-key-start
returns-then-key-start c =
    let a = c.args in rest_none a.text.now a.shared a.e _ c.key_of-key.ensures c.if-key-start.true

pub returns : goal.returns
returns c =
    let a = c.args in rest_some a.text.now a.shared a.e _ c.key_of-key.ensures
