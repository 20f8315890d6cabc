-- `plains` meets its contract: a law for each way out. Assumes nothing.
use Rattle.sheets.specs.Outcome.{plained}
use Rattle.round_trips.proofs.TripLaws.{first_out, second_out, both_out}
use Rattle.round_trips.proofs.plains.Goals as goal

pub returns-in-Err : goal.returns-in-Err
returns-in-Err c =
    let a = c.args in
    let x = c.plain_form in
    first_out (plained a.one.now) (plained a.other.now) a.third.now a.fourth.now x.new.out x.result x.ensures _ c.in-Err.is c.clear.new.out c.clear.ensures

pub returns-in-Err-plain_form : goal.returns-in-Err-plain_form
returns-in-Err-plain_form c =
    let a = c.args in
    let x = c.plain_form in
    let y = c.plain_form-2 in
    second_out (plained a.one.now) (plained a.other.now) a.third.now a.fourth.now x.new.out x.result x.ensures _ c.in-Ok.is y.new.out y.result y.ensures _ c.in-Err-plain_form.is c.clear-in-Err-plain_form.new.out c.clear-in-Err-plain_form.ensures

pub returns : goal.returns
returns c =
    let a = c.args in
    let x = c.plain_form in
    let y = c.plain_form-2 in
    both_out (plained a.one.now) (plained a.other.now) a.third.now a.fourth.now x.new.out x.result x.ensures _ c.in-Ok.is y.new.out y.result y.ensures _ c.in-Ok-plain_form.is
