-- `end_type` meets its contract: subtrees that stand are read. Assumes nothing.
use Rattle.schema_sheet.proofs.ReadLaws.{read_good}
use Rattle.refusal.proofs.ErrLaws.{passed}
use Rattle.import_field.proofs.EndLaws.{left_to, left_read, last_read}
use Rattle.import_field.proofs.end_type.Goals as goal

pub returns-in_err-next : goal.returns-in_err-next
returns-in_err-next c =
    let k = c.read_row in
    rw (passed c.from_residual.result _ c.from_residual.ensures.1) (tt, λ us ts h. absurd (read_good (left_to c.args.s.now _ _ _ k.result k.ensures us ts h) c.in_err-next.was))

pub returns : goal.returns
returns c =
    let k = c.read_row in
    let s = c.args.s.now in
    (last_read s _ _ _ k.result k.ensures _ _ c.in_ok-next.was, λ us ts h. left_read s _ _ _ k.result k.ensures us ts h _ _ c.in_ok-next.was)
