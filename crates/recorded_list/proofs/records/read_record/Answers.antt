-- `records::read_record` meets its contract: the header, the input and the output, each from where the one before it ends (`RecordLaws`). Assumes
-- nothing.
use lib.ListN.{length}
use Rattle.recorded_list.proofs.RecordLaws.{headless, no_input, no_output, whole_record}
use Rattle.recorded_list.proofs.records.read_record.Goals as goal

pub returns-in_err-h : goal.returns-in_err-h
returns-in_err-h c =
    let a = c.args in
    rw c.from_residual.ensures (headless a.s.now a.at _ _ c.in_err-h.ensures)

pub returns-in_err-middle : goal.returns-in_err-middle
returns-in_err-middle c =
    let a = c.args in
    let ins = c.read_part.new.out in
    rw c.from_residual-in_err-middle.ensures (no_input a.s.now a.at (length ins) _ _ _ c.in_ok-h.ensures c.in_err-middle.ensures)

pub returns-in_err-end : goal.returns-in_err-end
returns-in_err-end c =
    let a = c.args in
    let ins = c.read_part.new.out in
    let outs = c.read_part-2.new.out in
    rw c.from_residual-in_err-end.ensures (no_output a.s.now a.at (length ins) (length outs) _ _ c.in_ok-h.ensures _ _ c.in_ok-middle.ensures c.in_err-end.ensures)

pub returns : goal.returns
returns c =
    let a = c.args in
    let ins = c.read_part.new.out in
    let outs = c.read_part-2.new.out in
    whole_record a.s.now a.at (length ins) (length outs) _ _ c.in_ok-h.ensures _ _ c.in_ok-middle.ensures _ _ c.in_ok-end.ensures
