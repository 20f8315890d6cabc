-- `lean` meets its contract: a law for each return. Assumes nothing.
use Rattle.decimal.proofs.LeanLaws.{lean_none, lean_one, lean_more}
use mathlib.Core.Path.{sym}
use Rattle.decimal.proofs.lean.Goals as goal

pub returns-then-s-at : goal.returns-then-s-at
returns-then-s-at c =
    let st = c.args in
    sym (lean_none st.s.now st.at c.if-s-at.true)

pub returns-then-s-at-eq1 : goal.returns-then-s-at-eq1
returns-then-s-at-eq1 c =
    let st = c.args in
    sym (lean_one st.s.now st.at c.if-s-at-eq1.true)

pub returns : goal.returns
returns c =
    let st = c.args in
    sym (lean_more st.s.now st.at c.if-s-at.false c.if-s-at-eq1.false)
