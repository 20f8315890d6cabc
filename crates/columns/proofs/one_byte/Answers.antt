-- `columns::one_byte` meets its contract: a law for each return. Assumes nothing.
use mathlib.Core.Path.{sym}
use native.Mathlib.Omega.{arith}
use Rattle.columns.specs.Columns.{past_space}
use Rattle.columns.proofs.OneByteLaws.{one_short, one_other, one_is}
use Rattle.columns.proofs.one_byte.Goals as goal

pub returns-then-s-at : goal.returns-then-s-at
returns-then-s-at c =
    let a = c.args in sym (one_short past_space a.stop a.s.now a.at (omega arith))

pub returns-then-s-at-lt2 : goal.returns-then-s-at-lt2
returns-then-s-at-lt2 c =
    let a = c.args in sym (one_short past_space a.stop a.s.now a.at (omega arith))

pub returns-then-s-at-2 : goal.returns-then-s-at-2
returns-then-s-at-2 c =
    let a = c.args in sym (one_other past_space a.stop a.s.now a.at (omega arith) c.if-s-at-2.true)

pub returns : goal.returns
returns c =
    let a = c.args in sym (one_is past_space a.stop a.s.now a.at (omega arith) c.if-s-at-2.false)
