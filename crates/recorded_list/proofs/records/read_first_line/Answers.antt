-- `records::read_first_line` meets its contract: the three numbers are the struct's (`three`). Assumes nothing.
use Rattle.recorded_list.proofs.RecordLaws.{three, no_first_line, first_line_lem}
use Rattle.recorded_list.proofs.records.read_first_line.Goals as goal

pub returns-in_err-next : goal.returns-in_err-next
returns-in_err-next c =
    let a = c.args in
    rw c.from_residual.ensures (no_first_line a.s.now a.at _ c.read_numbers.auto.out c.in_err-next.ensures)

pub returns : goal.returns
returns c =
    let a = c.args in
    let l = c.read_numbers.new.out in
    first_line_lem a.s.now a.at _ _ l (three l c.read_numbers.auto.out) c.in_ok-next.ensures
