-- `plain_and_out` meets its contract: a law for each way out. Assumes nothing.
use Rattle.sheets.specs.Outcome.{exported_as, plain_outcome, plained}
use Rattle.sheets.specs.Demand3.{written}
use Rattle.round_trips.proofs.TripLaws.{part_length, first_out, second_out, both_out, handed}
use Rattle.round_trips.proofs.plain_and_out.Goals as goal

pub returns-in-Err : goal.returns-in-Err
returns-in-Err c =
    let a = c.args in
    let x = c.plain_form in
    first_out (plained a.sheet.now) (exported_as a.strict a.big (written (plain_outcome a.sheet.now a.third.now))) a.third.now a.fourth.now x.new.out x.result x.ensures _ c.in-Err.is c.clear.new.out c.clear.ensures

pub slice_bounds-export_as-end-2 : goal.slice_bounds-export_as-end-2
slice_bounds-export_as-end-2 c = part_length c.within-n.result _ _ c.within-n.ensures

pub returns-in-Err-export_as : goal.returns-in-Err-export_as
returns-in-Err-export_as c =
    let a = c.args in
    let x = c.plain_form in
    let y = c.export_as in
    second_out (plained a.sheet.now) (exported_as a.strict a.big (written (plain_outcome a.sheet.now a.third.now))) a.third.now a.fourth.now x.new.out x.result x.ensures _ c.in-Ok.is y.new.out y.result (handed (exported_as a.strict a.big) c.within-n.result x.new.out a.fourth.now y.new.out x.result y.result _ x.ensures _ c.in-Ok.is c.within-n.ensures y.ensures) _ c.in-Err-export_as.is c.clear-in-Err-export_as.new.out c.clear-in-Err-export_as.ensures

pub returns : goal.returns
returns c =
    let a = c.args in
    let x = c.plain_form in
    let y = c.export_as in
    both_out (plained a.sheet.now) (exported_as a.strict a.big (written (plain_outcome a.sheet.now a.third.now))) a.third.now a.fourth.now x.new.out x.result x.ensures _ c.in-Ok.is y.new.out y.result (handed (exported_as a.strict a.big) c.within-n.result x.new.out a.fourth.now y.new.out x.result y.result _ x.ensures _ c.in-Ok.is c.within-n.ensures y.ensures) _ c.in-Ok-export_as.is
