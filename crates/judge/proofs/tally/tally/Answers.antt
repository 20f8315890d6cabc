-- `tally` meets its contract: by what was told of the record. Assumes nothing.
use Rattle.judge.proofs.TallyLaws.{tally_agrees, tally_differs}
use Rattle.judge.proofs.tally.tally.Goals as goal

pub returns-in-None : goal.returns-in-None
returns-in-None c =
    let a = c.args in tally_agrees a.r a.call a.kept.now _ c.in-None.is c.count.ensures

pub returns-in-Some : goal.returns-in-Some
returns-in-Some c =
    let a = c.args in tally_differs a.r a.call a.kept.now _ _ _ c.in-Some.is c.count-in-Some.ensures c.count-in-Some-2.ensures
