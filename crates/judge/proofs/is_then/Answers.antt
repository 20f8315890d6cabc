-- `is_then` meets its contract: the first bytes are compared, and then the rest, which is as long as the filler. Assumes nothing.
use Rattle.std.proofs.Common.{sym, ◌∙◌}
use Rattle.judge.proofs.JudgingLaws.{other_bytes, then_filler}
use Rattle.judge.proofs.is_then.Goals as goal

pub returns-in-Some : goal.returns-in-Some
returns-in-Some c =
    let a = c.args in
    let e = c.in-Some.ensures.cases in
    c.all_are.ensures ∙ then_filler a.s.now a.x.now a.b _ e.1 e.0

pub returns-in-None : goal.returns-in-None
returns-in-None c =
    let a = c.args in
    sym (other_bytes a.s.now a.x.now a.b c.in-None.ensures.cases)
