-- `end_line` meets its contract: by the two cases of what is pending. Assumes nothing.
use mathlib.Core.Path.{refl}
use Rattle.refusal.proofs.ErrLaws.{passed}
use Rattle.walks.proofs.end_line.Goals as goal

pub returns-in_err-pending : goal.returns-in_err-pending
returns-in_err-pending c = rw (passed c.from_residual.result _ c.from_residual.ensures.1, c.in_err-pending.was) refl

pub returns : goal.returns
returns c = rw c.in_ok-pending.was refl
