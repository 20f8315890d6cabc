-- `put_whole` meets its contract: the front, then the name (`line_put`). Assumes nothing.
use Rattle.page_line.proofs.PutLaws.{line_put}
use Rattle.page_line.proofs.put.put_whole.Goals as goal

pub returns : goal.returns
returns c = line_put c.args.level c.args.kind c.args.mark c.args.digits.now c.args.out.now _ _ c.put_front.ensures c.put_name.ensures
