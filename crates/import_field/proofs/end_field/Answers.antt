-- `end_field` meets its contract: by the two cases of what is pending. Assumes nothing.
use mathlib.Core.Path.{sym, ap}
use Rattle.import_field.specs.Recursion.{ended_field}
use Rattle.refusal.proofs.ErrLaws.{passed}
use Rattle.refusal.specs.Refusals.{Refusing, answer_of}
use Rattle.import_field.proofs.end_field.Goals as goal

pub returns : goal.returns
returns c = ap (λ (p : Refusing (Unit {0})). ended_field (answer_of p) c.args.next c.args.size) (sym c.in_ok-pending.was)

pub returns-in_err-pending : goal.returns-in_err-pending
returns-in_err-pending c = rw (passed c.from_residual.result _ c.from_residual.ensures.1) (ap (λ (p : Refusing (Unit {0})). ended_field (answer_of p) c.args.next c.args.size) (sym c.in_err-pending.was))
