-- `ascii_pairs::pairs_column` meets its contract: a column of pairs ends where pairs end. Assumes nothing.
use native.Mathlib.Omega.{arith}
use Rattle.columns.proofs.PairsColumnLaws.{pairs_past, pairs_last, pairs_other, pairs_none, pairs_column_lem}
use Rattle.columns.proofs.ascii_pairs.pairs_column.Goals as goal

pub returns-then-s-at : goal.returns-then-s-at
returns-then-s-at c =
    let a = c.args in pairs_past a.s.now a.at c.if-s-at.true

pub returns-then-s-e : goal.returns-then-s-e
returns-then-s-e c =
    let a = c.args in pairs_last a.s.now a.at _ c.pairs_from-e.ensures c.if-s-e.true

pub returns-then-s-e-ne32 : goal.returns-then-s-e-ne32
returns-then-s-e-ne32 c =
    let a = c.args in pairs_other a.s.now a.at _ c.pairs_from-e.ensures c.if-s-e-ne32.true

pub returns-then-e-at : goal.returns-then-e-at
returns-then-e-at c =
    let a = c.args in pairs_none a.s.now a.at _ c.pairs_from-e.ensures c.if-e-at.true

pub returns : goal.returns
returns c =
    let a = c.args in pairs_column_lem a.s.now a.at _ c.pairs_from-e.ensures c.if-e-at.false (omega (arith, c.if-s-e.false)) c.if-s-e-ne32.false
