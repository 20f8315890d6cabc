-- `line_begun` meets its contract: by the cases of what was written. Assumes nothing.
use mathlib.Core.Path.{sym, ap, ◌∙◌}
use Prim.Native.Nat.{ℕ, ◌+◌}
use native.Mathlib.Omega.{arith}
use Rattle.std.specs.Prelude.{Option, None, Bool}
use Rattle.sheets.specs.Answer.{Answer, given}
use Rattle.sheets.specs.ExportSteps.{Bearer}
use Rattle.walks.specs.Places.{Begun}
use Rattle.export_line.specs.Begins.{begun_with}
use Rattle.refusal.specs.Refusals.{Refusing, answer_of}
use Rattle.refusal.proofs.ErrLaws.{passed}
use Rattle.export_line.proofs.line_begun.Goals as goal

pub overflow_add-size : goal.overflow_add-size
overflow_add-size c = omega (arith, c.requires)

pub returns-in_err-len : goal.returns-in_err-len
returns-in_err-len c =
    let a = c.args in
    rw (passed c.from_residual.result _ c.from_residual.ensures.1) (ap (λ (e : Refusing (ℕ × Bool)). begun_with a.row a.passed (answer_of e)) (sym c.in_err-len.was))

pub returns : goal.returns
returns c =
    let a = c.args in
    let w = a.row in
    let f : Answer (Unit {0}) → Answer (Begun (Option Bearer)) = λ p. given (record { from = w.at; count = w.count; levels = w.levels; inside = w.inside; state = None; size = record { len = c.in_ok-len.len; lines = a.passed + 1 }; pending = p }) in
    ap f c.pending_of-pending.ensures ∙ ap (λ (e : Refusing (ℕ × Bool)). begun_with w a.passed (answer_of e)) (sym c.in_ok-len.was)
