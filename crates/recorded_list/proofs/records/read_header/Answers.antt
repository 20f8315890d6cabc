-- `records::read_header` meets its contract: the eight numbers are the struct's (`eight`). Assumes nothing.
use Rattle.recorded_list.proofs.RecordLaws.{eight, no_header, header}
use Rattle.recorded_list.proofs.records.read_header.Goals as goal

pub returns-in_err-next : goal.returns-in_err-next
returns-in_err-next c =
    let a = c.args in
    rw c.from_residual.ensures (no_header a.s.now a.at _ c.read_numbers.auto.out c.in_err-next.ensures)

pub returns : goal.returns
returns c =
    let a = c.args in
    let l = c.read_numbers.new.out in
    header a.s.now a.at _ _ l (eight l c.read_numbers.auto.out) c.in_ok-next.ensures
