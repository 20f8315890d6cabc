-- `out_and_back` meets its contract: a law for each way out. Assumes nothing.
use Rattle.sheets.specs.Outcome.{export_outcome_as, exported_as, imported}
use Rattle.sheets.specs.Demand3.{written}
use Rattle.round_trips.proofs.TripLaws.{part_length, first_out, second_out, both_out, handed}
use Rattle.round_trips.proofs.out_and_back.Goals as goal

pub returns-in-Err : goal.returns-in-Err
returns-in-Err c =
    let a = c.args in
    let x = c.export_as in
    first_out (exported_as a.strict a.big a.sheet.now) (imported a.big (written (export_outcome_as a.strict a.big a.sheet.now a.first.now))) a.first.now a.second.now x.new.out x.result x.ensures _ c.in-Err.is c.clear.new.out c.clear.ensures

pub slice_bounds-import-end-2 : goal.slice_bounds-import-end-2
slice_bounds-import-end-2 c = part_length c.within-n.result _ _ c.within-n.ensures

pub returns-in-Err-import : goal.returns-in-Err-import
returns-in-Err-import c =
    let a = c.args in
    let x = c.export_as in
    let y = c.import in
    second_out (exported_as a.strict a.big a.sheet.now) (imported a.big (written (export_outcome_as a.strict a.big a.sheet.now a.first.now))) a.first.now a.second.now x.new.out x.result x.ensures _ c.in-Ok.is y.new.out y.result (handed (imported a.big) c.within-n.result x.new.out a.second.now y.new.out x.result y.result _ x.ensures _ c.in-Ok.is c.within-n.ensures y.ensures) _ c.in-Err-import.is c.clear-in-Err-import.new.out c.clear-in-Err-import.ensures

pub returns : goal.returns
returns c =
    let a = c.args in
    let x = c.export_as in
    let y = c.import in
    both_out (exported_as a.strict a.big a.sheet.now) (imported a.big (written (export_outcome_as a.strict a.big a.sheet.now a.first.now))) a.first.now a.second.now x.new.out x.result x.ensures _ c.in-Ok.is y.new.out y.result (handed (imported a.big) c.within-n.result x.new.out a.second.now y.new.out x.result y.result _ x.ensures _ c.in-Ok.is c.within-n.ensures y.ensures) _ c.in-Ok-import.is
