-- `walk_first` meets its contract: a type is a row of one type (walks/proofs/FirstLaws). Assumes nothing.
use Rattle.walks.proofs.FirstLaws.{first_there, first_wrote}
use Rattle.field_walk.specs.Calls.{step_of, state_of}
use Rattle.refusal.specs.Refusals.{answer_of}
use Rattle.field_walk.proofs.walk_first.Goals as goal

pub walk_row-requires : goal.walk_row-requires
walk_row-requires c =
    let w = c.args.tree in first_there c.args.s.now w.at w.levels w.inside c.requires

pub returns : goal.returns
returns c =
    let a = c.args in
    let w = a.tree in
    let r = c.walk_row in
    first_wrote a.s.now w.at w.levels w.inside (step_of a.call) (state_of a.call w.levels w.inside) a.out.now r.new.out (answer_of r.result) r.ensures
