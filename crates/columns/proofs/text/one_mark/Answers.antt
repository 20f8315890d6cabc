-- `text::one_mark` meets its contract: marks are past the space. Assumes nothing.
use mathlib.Core.Path.{sym, ◌∙◌}
use native.Mathlib.Omega.{arith}
use Rattle.columns.specs.Columns.{past_space}
use Rattle.columns.specs.TextColumns.{is_mark}
use Rattle.columns.proofs.OneByteLaws.{one_told, one_not, one_byte}
use Rattle.columns.proofs.TextLaws.{mark_past}
use Rattle.columns.proofs.text.one_mark.Goals as goal

pub returns-then-not-one_byte : goal.returns-then-not-one_byte
returns-then-not-one_byte c =
    let a = c.args in
    sym (one_not is_mark mark_past 32 a.s.now a.at (sym c.one_byte.ensures ∙ c.if-not-one_byte.true))

pub bounds-s-at : goal.bounds-s-at
bounds-s-at c =
    let a = c.args in
    let o = one_told past_space 32 a.s.now a.at (sym c.one_byte.ensures ∙ c.if-not-one_byte.false) in
    omega (arith, o.room)

pub returns : goal.returns
returns c =
    let a = c.args in
    c.is_mark.ensures ∙ sym (one_byte is_mark mark_past 32 a.s.now a.at (sym c.one_byte.ensures ∙ c.if-not-one_byte.false))
