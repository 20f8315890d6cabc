-- `put_head` meets its contract: words, and the bytes they are (`head_short`, `head_long`). Assumes nothing.
use lib.ListN.{length}
use Rattle.put_leaf.proofs.PutLaws.{head_short, head_long}
use Rattle.field_leaf.specs.LeafText.{head_text}
use Rattle.buffer.proofs.OverLaws.{length_over}
use mathlib.Core.Path.{ap, ◌∙◌}
use native.Mathlib.Omega.{arith}
use Rattle.put_leaf.proofs.put_head.Goals as goal

pub returns-then-kind-lt10 : goal.returns-then-kind-lt10
returns-then-kind-lt10 c =
    let r = head_short c.args.kind c.args.out.now c.put_word8.new.out c.put_word2.new.out c.if-kind-lt10.true
    c.put_word8.ensures c.put_word2.ensures in
    (r, omega arith)

pub shape_of-out : goal.shape_of-out
shape_of-out c =
    ap length (head_long c.args.kind c.args.out.now c.put_word8-2.new.out c.put_word2-2.new.out c.if-kind-lt10.false c.requires.0 c.requires.1
    c.put_word8-2.ensures c.put_word2-2.ensures).1 ∙ length_over (head_text c.args.kind) c.args.out.now

pub returns : goal.returns
returns c =
    let r = head_long c.args.kind c.args.out.now c.put_word8-2.new.out c.put_word2-2.new.out c.if-kind-lt10.false c.requires.0 c.requires.1
    c.put_word8-2.ensures c.put_word2-2.ensures in
    (r, omega arith)
