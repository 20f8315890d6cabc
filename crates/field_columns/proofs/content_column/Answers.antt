-- `content_column` meets its contract: the one byte that most columns are and ASCII text are what the column must hold, and any other column is read
-- as before. Assumes nothing.
use mathlib.Core.Path.{sym, ◌∙◌}
use native.Mathlib.Omega.{arith}
use Rattle.columns.specs.Columns.{past_space}
use Rattle.columns.proofs.OneByteLaws.{one_told}
use Rattle.field_columns.proofs.UsualLaws.{usual_column, ascii_content}
use Rattle.field_columns.proofs.content_column.Goals as goal

pub bounds-s-at : goal.bounds-s-at
bounds-s-at c =
    let a = c.args in
    omega (arith, (one_told past_space 32 a.s.now a.at (sym c.one_byte.ensures ∙ c.if-one_byte.true)).room)

pub overflow_add-result : goal.overflow_add-result
overflow_add-result c =
    let a = c.args in
    omega (arith, c.ranges, (one_told past_space 32 a.s.now a.at (sym c.one_byte.ensures ∙ c.if-one_byte.true)).room)

pub returns-then-is_usual : goal.returns-then-is_usual
returns-then-is_usual c =
    let a = c.args in
    usual_column a.content a.s.now a.at (sym c.one_byte.ensures ∙ c.if-one_byte.true) (sym c.is_usual.ensures ∙ c.if-is_usual.true)

pub returns-in-Some : goal.returns-in-Some
returns-in-Some c =
    let a = c.args in
    ascii_content a.content a.s.now a.at _ (sym c.takes_text.ensures ∙ c.if-takes_text.true) (sym (c.in-Some.is) ∙ c.pairs_column.ensures)
