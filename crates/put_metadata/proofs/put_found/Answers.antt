-- `put_found` meets its contract: the pair that stands at the walk's place was written, and the walk goes on after it. Assumes nothing.
use Rattle.put_metadata.proofs.WalkLaws.{found}
use Rattle.put_metadata.proofs.put_found.Goals as goal

pub returns : goal.returns
returns c =
    let a = c.args in
    found a.big a.pairs.now a.w a.p c.requires.0 c.requires.1 c.put_pair-end.result a.out.now c.put_pair-end.new.out c.put_pair-end.ensures
