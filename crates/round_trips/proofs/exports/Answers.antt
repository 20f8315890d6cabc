-- `exports` meets its contract: a law for each way out. Assumes nothing.
use Rattle.sheets.specs.Outcome.{exported}
use Rattle.round_trips.proofs.TripLaws.{first_out, second_out, both_out}
use Rattle.round_trips.proofs.exports.Goals as goal

pub returns-in-Err : goal.returns-in-Err
returns-in-Err c =
    let a = c.args in
    let x = c.export in
    first_out (exported a.big a.one.now) (exported a.big a.other.now) a.first.now a.second.now x.new.out x.result x.ensures _ c.in-Err.is c.clear.new.out c.clear.ensures

pub returns-in-Err-export : goal.returns-in-Err-export
returns-in-Err-export c =
    let a = c.args in
    let x = c.export in
    let y = c.export-2 in
    second_out (exported a.big a.one.now) (exported a.big a.other.now) a.first.now a.second.now x.new.out x.result x.ensures _ c.in-Ok.is y.new.out y.result y.ensures _ c.in-Err-export.is c.clear-in-Err-export.new.out c.clear-in-Err-export.ensures

pub returns : goal.returns
returns c =
    let a = c.args in
    let x = c.export in
    let y = c.export-2 in
    both_out (exported a.big a.one.now) (exported a.big a.other.now) a.first.now a.second.now x.new.out x.result x.ensures _ c.in-Ok.is y.new.out y.result y.ensures _ c.in-Ok-export.is
