-- `own::one_none` meets its contract: `~` is past the space. Assumes nothing.
use mathlib.Core.Path.{sym, ◌∙◌}
use native.Mathlib.Omega.{arith}
use Rattle.columns.specs.Columns.{past_space}
use Rattle.columns.proofs.OneByteLaws.{one_told, one_not, one_byte}
use Rattle.read_field_line.specs.Stages.{is_none}
use Rattle.read_field_line.proofs.BareLaws.{none_past}
use Rattle.read_field_line.proofs.own.one_none.Goals as goal

pub returns-then-not-one_byte : goal.returns-then-not-one_byte
returns-then-not-one_byte c =
    let a = c.args in
    sym (one_not is_none none_past 32 a.s.now a.at (sym c.one_byte.ensures ∙ c.if-not-one_byte.true))

pub bounds-s-at : goal.bounds-s-at
bounds-s-at c =
    let a = c.args in
    omega (arith, (one_told past_space 32 a.s.now a.at (sym c.one_byte.ensures ∙ c.if-not-one_byte.false)).room)

pub returns : goal.returns
returns c =
    let a = c.args in
    sym (one_byte is_none none_past 32 a.s.now a.at (sym c.one_byte.ensures ∙ c.if-not-one_byte.false))
