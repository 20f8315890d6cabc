-- `text::text_column` meets its contract: a mark alone is a text, and any other is read as before. Assumes nothing.
use mathlib.Core.Path.{sym, ◌∙◌}
use native.Mathlib.Omega.{arith}
use Rattle.columns.specs.TextColumns.{is_mark}
use Rattle.columns.proofs.OneByteLaws.{one_told}
use Rattle.columns.proofs.TextLaws.{mark_column}
use Rattle.columns.proofs.text.text_column.Goals as goal

pub overflow_add-result : goal.overflow_add-result
overflow_add-result c =
    let a = c.args in
    let o = one_told is_mark 32 a.s.now a.at (sym c.one_mark.ensures ∙ c.if-one_mark.true) in
    omega (arith, o.room, c.ranges)

pub returns-then-one_mark : goal.returns-then-one_mark
returns-then-one_mark c =
    let a = c.args in
    sym (mark_column a.s.now a.at (one_told is_mark 32 a.s.now a.at (sym c.one_mark.ensures ∙ c.if-one_mark.true)))
