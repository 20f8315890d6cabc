-- `put_type_line` meets its contract: the type's columns, what is shown and the end of the line are written one after the other. Assumes nothing.
use native.Mathlib.Omega.{arith}
use Rattle.refusal.proofs.ErrLaws.{passed}
use Rattle.node.proofs.NodeLaws.{format_there, type_low, ready_there, end_low, line_refused, line_put}
use Rattle.node.proofs.put_type_line.Goals as goal

-- src/lib.rt:124:11
pub put_type-requires : goal.put_type-requires
put_type-requires c = format_there c.requires.0 _ c.column_of-format.ensures

-- src/lib.rt:128:17
pub put_own-own-requires : goal.put_own-own-requires
put_own-own-requires c =
    let p = c.requires in
    let a = c.args in
    let format = c.column_of-format.ensures in
    let name = c.column_of-name.ensures in
    let block = c.column_of-metadata.ensures in
    let put = c.put_type in
    (type_low p.0 _ format _ _ put.result put.ensures _ _ c.in_ok-end.was, ready_there p.0 _ format _ _ put.result put.ensures _ _ c.in_ok-end.was a.shown _ _ _ _ name block c.text_of-m.ensures p.1)

-- src/lib.rt:129:17
pub put_end-len-requires : goal.put_end-len-requires
put_end-len-requires c =
    let p = c.requires in
    let a = c.args in
    let format = c.column_of-format.ensures in
    let name = c.column_of-name.ensures in
    let block = c.column_of-metadata.ensures in
    let put = c.put_type in
    end_low p.0 _ format _ _ put.result put.ensures _ _ c.in_ok-end.was a.shown _ _ _ _ name block c.text_of-m.ensures p.1 _ _ c.put_own-own.ensures

-- src/lib.rt:111:1
pub returns-in_err-end : goal.returns-in_err-end
returns-in_err-end c =
    let p = c.requires in
    let a = c.args in
    let format = c.column_of-format.ensures in
    let name = c.column_of-name.ensures in
    let block = c.column_of-metadata.ensures in
    let put = c.put_type in
    rw (passed c.from_residual.result _ c.from_residual.ensures.1) (λ x w. line_refused p.0 _ format _ _ put.result put.ensures _ c.in_err-end.was x w)

-- src/lib.rt:111:1
pub returns : goal.returns
returns c =
    let p = c.requires in
    let a = c.args in
    let format = c.column_of-format.ensures in
    let name = c.column_of-name.ensures in
    let block = c.column_of-metadata.ensures in
    let put = c.put_type in
    λ x w. line_put p.0 _ format _ _ put.result put.ensures _ _ c.in_ok-end.was a.shown _ _ _ _ name block c.text_of-m.ensures p.1 _ _ c.put_own-own.ensures _ _ _ c.children_below.ensures (omega arith) c.put_end-len.ensures x w
