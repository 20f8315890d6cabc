-- What is said of a line that was begun. Assumes nothing.
use Rattle.std.specs.Prelude.{Bool, ℕ, Option, None, Some, Ok, Err}
use Rattle.sheets.specs.Answer.{Answer, refused, given}
use Rattle.refusal.specs.Refusals.{refusal_of, Refusing, answer_of}
use Rattle.walks.specs.Places.{Begun}
use Rattle.walks.specs.declared.LineBegun.{LineBegun}

-- what is left after a line, or the refusal; the state of the types below is told by the levels left for them and by whether they stand directly in an
-- extension
abbrev pub begun_answer : {S : Type 0} → (ℕ → Bool → S) → Refusing LineBegun → Answer (Begun S)
begun_answer state (Ok b) =
    let w = b.row in
    given (record { from = w.at; count = w.count; levels = w.levels; inside = w.inside; state = state w.levels w.inside; size = b.size; pending = answer_of b.pending })
begun_answer state (Err r) = refused (refusal_of r)
