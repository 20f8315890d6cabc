-- `read_full` keeps its invariant: the front of the text grows by what was read behind it (`read_on`). Assumes nothing.
use Rattle.std.proofs.Common.{rules, length, ◌-◌}
use Rattle.streams.proofs.ReadingLaws.{read_on}
use Rattle.streams.proofs.read_full.Goals as goal

pub loop-done-preserved : goal.loop-done-preserved
loop-done-preserved g c =
    let l = c.loop-done in
    (search rules, search rules, read_on _ _ _ l.done (length l.text - l.done) c.in_ok-n.n l.text c.read.new.buf l.invariant.1 c.in_ok-n.ensures.bound.0 l.invariant.2 c.in_ok-n.ensures.bytes.0)
