-- `put_index` meets its contract: the index type is read, and the dictionary's columns are written. Assumes nothing.
use Rattle.refusal.proofs.ErrLaws.{passed}
use Rattle.node.proofs.TypeLaws.{index_refused, index_put}
use Rattle.node.proofs.dtype.put_index.Goals as goal

-- src/dtype.rt:51:1
pub returns-in_err-index : goal.returns-in_err-index
returns-in_err-index c =
    let read = c.to_integer_type in
    let a = c.args in
    rw (passed c.from_residual.result _ c.from_residual.ensures.1) (index_refused a.f.now a.ordered read.result read.ensures _ c.in_err-index.was)

-- src/dtype.rt:51:1
pub returns : goal.returns
returns c =
    let read = c.to_integer_type in
    let put = c.put_dictionary in
    let a = c.args in
    index_put a.f.now a.ordered read.result read.ensures _ c.in_ok-index.was a.out.now _ put.result put.ensures
