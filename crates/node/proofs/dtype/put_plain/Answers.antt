-- `put_plain` meets its contract: a format is refused before a child that is absent. Assumes nothing.
use mathlib.Core.Path.{sym, ◌∙◌}
use Rattle.refusal.proofs.ErrLaws.{passed}
use Rattle.node.proofs.TypeLaws.{plain_refused_lem, plain_lacks, plain_put}
use Rattle.node.proofs.dtype.put_plain.Goals as goal

-- src/dtype.rt:43:17
pub returns-then-lacks_child : goal.returns-then-lacks_child
returns-then-lacks_child c =
    let put = c.put_format in
    let a = c.args in
    plain_lacks a.f.now a.sorted a.children a.out.now _ put.result put.ensures _ _ c.in_ok-end.was (sym c.lacks_child.ensures ∙ c.if-lacks_child.true)

-- src/dtype.rt:35:1
pub returns-in_err-end : goal.returns-in_err-end
returns-in_err-end c =
    let put = c.put_format in
    let a = c.args in
    rw (passed c.from_residual.result _ c.from_residual.ensures.1) (plain_refused_lem a.f.now a.sorted a.children a.out.now _ put.result put.ensures _ c.in_err-end.was)

-- src/dtype.rt:35:1
pub returns : goal.returns
returns c =
    let put = c.put_format in
    let a = c.args in
    plain_put a.f.now a.sorted a.children a.out.now _ put.result put.ensures _ _ c.in_ok-end.was c.requires.is_text (sym c.lacks_child.ensures ∙ c.if-lacks_child.false)
