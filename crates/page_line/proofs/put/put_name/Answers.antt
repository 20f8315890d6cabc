-- `put_name` meets its contract, of a name that is cut (`cut_put`) and of one that is written over spaces (`whole_put`). Assumes nothing.
use native.Mathlib.Omega.{arith}
use Rattle.page_line.proofs.PutLaws.{whole_put, cut_put}
use Rattle.page_line.proofs.put.put_name.Goals as goal

pub returns-then-n-gt-NAME_WIDTH : goal.returns-then-n-gt-NAME_WIDTH
returns-then-n-gt-NAME_WIDTH c =
    let a = c.args in cut_put a.digits.now a.out.now _ _ (omega (arith, c.if-n-gt-NAME_WIDTH.true)) c.copy_part.ensures.1 c.put_word2.ensures

pub returns : goal.returns
returns c =
    let a = c.args in whole_put a.digits.now a.out.now _ _ (omega (arith, c.if-n-gt-NAME_WIDTH.false)) c.put_blank.ensures c.copy_part-2.ensures.1
