-- `put_format` meets its contract: two digits at once (`format_pair`), or the general way. Assumes nothing.
use Rattle.put_schema_leaf.proofs.PutLaws.{format_pair}
use Rattle.put_schema_leaf.proofs.put_format.Goals as goal

pub returns-then-len-eq2 : goal.returns-then-len-eq2
returns-then-len-eq2 c = format_pair c.args.out.now c.args.low c.args.high c.args.len c.requires.1 c.put_word2.new.out c.if-len-eq2.true c.put_word2.ensures

pub returns : goal.returns
returns c = c.put_long_format.ensures
