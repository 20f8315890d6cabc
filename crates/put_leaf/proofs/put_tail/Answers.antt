-- `put_tail` meets its contract (`tail_put`). Assumes nothing.
use lib.ListN.{length}
use Rattle.put_leaf.proofs.PutLaws.{tail_put}
use Rattle.field_leaf.specs.LeafText.{tail_text}
use Rattle.buffer.proofs.OverLaws.{length_over_at}
use mathlib.Core.Path.{ap, ◌∙◌}
use Rattle.put_leaf.proofs.put_tail.Goals as goal

pub shape_of-out : goal.shape_of-out
shape_of-out c =
    ap length (tail_put c.args.at c.args.n c.args.count c.args.out.now c.put_word4.new.out c.put_word2.new.out c.requires.0 c.requires.1 c.requires.2
    c.put_word4.ensures c.put_word2.ensures).1 ∙ length_over_at c.args.at (tail_text c.args.n c.args.count) c.args.out.now

pub returns : goal.returns
returns c =
    tail_put c.args.at c.args.n c.args.count c.args.out.now c.put_word4.new.out c.put_word2.new.out c.requires.0 c.requires.1 c.requires.2
    c.put_word4.ensures c.put_word2.ensures
