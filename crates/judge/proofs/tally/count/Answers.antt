-- `count` meets its contract: a call that there is gets one more, another none. Assumes nothing.
use Rattle.judge.proofs.TallyLaws.{counted_call, counted_none}
use Rattle.judge.proofs.tally.count.Goals as goal

pub returns-then-call : goal.returns-then-call
returns-then-call c =
    let a = c.args in counted_call a.from a.call a.kept.now _ c.if-call.true c.wrapping_add_u64.ensures.value

pub returns-else-call : goal.returns-else-call
returns-else-call c =
    let a = c.args in counted_none a.from a.call a.kept.now c.if-call.false
