-- `number` meets its contract: by whether the digits are lean. Assumes nothing.
use Rattle.decimal.proofs.ColumnLaws.{column_lean, column_spare}
use lib.ListN.{drop}
use Prim.Native.Nat.{◌+◌}
use mathlib.Core.Path.{sym, ◌∙◌}
use Rattle.decimal.proofs.number.Goals as goal

pub returns-then-not-lean : goal.returns-then-not-lean
returns-then-not-lean c =
    let st = c.args in
    sym (column_spare (st.max + 1) (drop st.at st.s.now) (sym c.lean.ensures ∙ c.if-not-lean.true))

pub returns : goal.returns
returns c =
    let st = c.args in
    c.digits.ensures ∙ sym (column_lean (st.max + 1) (drop st.at st.s.now) (sym c.lean.ensures ∙ c.if-not-lean.false))
