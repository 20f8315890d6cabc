-- `put_blank` meets its contract: a chain of words (`blank_put`). Assumes nothing.
use Rattle.page_line.proofs.PutLaws.{blank_put}
use Rattle.page_line.proofs.put.put_blank.Goals as goal

pub returns : goal.returns
returns c =
    blank_put c.args.out.now _ _ _ _ _ _ _
    c.put_word8.ensures
    c.put_word8-2.ensures
    c.put_word8-3.ensures
    c.put_word8-4.ensures
    c.put_word8-5.ensures
    c.put_word8-6.ensures
    c.put_word2.ensures
