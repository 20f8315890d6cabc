-- `put_tail` meets its contract (`tail_put`). Assumes nothing.
use Rattle.put_schema_leaf.proofs.PutLaws.{tail_put}
use Rattle.put_schema_leaf.proofs.put_tail.Goals as goal

pub returns : goal.returns
returns c = tail_put c.args.at c.args.nullable c.args.out.now c.put_word8.new.out c.requires.0 c.requires.1 c.put_word8.ensures
