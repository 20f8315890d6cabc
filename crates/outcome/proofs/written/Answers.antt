-- `written` meets its contract: a law for each way out. Assumes nothing.
use mathlib.Core.Path.{ap}
use native.Mathlib.Omega.{arith}
use Rattle.std.specs.Prelude.{Err}
use Rattle.outcome.specs.Answers.{outcome_of}
use Rattle.outcome.specs.declared.Refused.TheVariants.{NoRoom}
use Rattle.outcome.proofs.AnswerLaws.{too_long, written_whole}
use Rattle.outcome.proofs.written.Goals as goal

pub returns-then-out-len : goal.returns-then-out-len
returns-then-out-len c =
    let a = c.args in
    too_long a.out.now a.len (omega (arith, c.if-out-len.true)) (Err NoRoom) _ (ap (outcome_of (Err NoRoom)) c.clear.ensures)

pub returns : goal.returns
returns c =
    let a = c.args in written_whole a.out.now a.len (omega (arith, c.if-out-len.false))
