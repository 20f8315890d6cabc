-- `answer_pick` meets its contract: the type was found, or it is refused. Assumes nothing.
use Rattle.picked_types.proofs.SheetLaws.{pick_refused, pick_written, found_there}
use Rattle.picked_types.proofs.answer_pick.Goals as goal

pub put_type-len-requires : goal.put_type-len-requires
put_type-len-requires c =
    let a = c.args in found_there a.s.now a.p _ a.own c.in-Some.is c.requires

pub returns-in-None : goal.returns-in-None
returns-in-None c =
    let d = c.args in λ a j told says. pick_refused d.s.now d.own d.out.now a j d.p c.in-None.is told _ c.refuse.ensures

pub returns-in-Some : goal.returns-in-Some
returns-in-Some c =
    let d = c.args in
    let w = c.written in
    λ a j told says. pick_written d.s.now d.own d.out.now a j d.p _ c.in-Some.is told says c.put_type-len.new.out _ c.put_type-len.ensures w.result w.new.out w.ensures
