-- `after` meets its contract: a law for each return. Assumes nothing.
use mathlib.Core.Path.{sym}
use Prim.Native.Nat.{◌+◌}
use native.Mathlib.Omega.{arith}
use Rattle.decimal.proofs.DigitLaws.{low, high, too_large, longer}
use Rattle.decimal.proofs.digit.after.Goals as goal

pub returns-then-b-lt48 : goal.returns-then-b-lt48
returns-then-b-lt48 c =
    let st = c.args in sym (low (st.max + 1) st.v st.b (omega arith))

pub returns-then-b-gt57 : goal.returns-then-b-gt57
returns-then-b-gt57 c =
    let st = c.args in sym (high (st.max + 1) st.v st.b (omega arith))

pub returns-then-max-v : goal.returns-then-max-v
returns-then-max-v c =
    let st = c.args in
    sym (too_large (st.max + 1) st.v st.b (omega arith) (omega arith) (omega arith))

pub returns-then-max-v-2 : goal.returns-then-max-v-2
returns-then-max-v-2 c =
    let st = c.args in
    sym (too_large (st.max + 1) st.v st.b (omega arith) (omega arith) (omega arith))

pub returns : goal.returns
returns c =
    let st = c.args in
    sym (longer (st.max + 1) st.v st.b (omega arith) (omega arith) (omega arith))
