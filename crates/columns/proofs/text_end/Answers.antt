-- `columns::text_end` meets its contract: a column of one byte ends after it, and the end of any other is looked for. Assumes nothing.
use mathlib.Core.Path.{refl, sym, ◌∙◌}
use native.Mathlib.Omega.{arith}
use Rattle.columns.specs.Columns.{past_space}
use Rattle.columns.proofs.ColumnLaws.{column_end_lem}
use Rattle.columns.proofs.OneByteLaws.{one_told, one_column}
use Rattle.columns.proofs.text_end.Goals as goal

pub overflow_add-result : goal.overflow_add-result
overflow_add-result c =
    let a = c.args in
    let o = one_told past_space 32 a.s.now a.at (sym c.one_byte.ensures ∙ c.if-one_byte.true) in
    omega (arith, o.room, c.ranges)

pub returns-then-one_byte : goal.returns-then-one_byte
returns-then-one_byte c =
    let a = c.args in
    column_end_lem (one_column (one_told past_space 32 a.s.now a.at (sym c.one_byte.ensures ∙ c.if-one_byte.true))) refl
