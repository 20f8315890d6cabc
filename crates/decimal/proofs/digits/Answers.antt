-- `digits` meets its contract. The invariant: the answer is that of the bytes from place i on, after digits whose value is v. Assumes nothing.
use mathlib.Core.Path.{refl, sym, ◌∙◌}
use Prim.Native.Nat.{◌+◌}
use native.Mathlib.Omega.{arith}
use lib.ListN.{get_or}
use Rattle.sheets.specs.Refusal.{bad_lines}
use Rattle.decimal.proofs.DigitLaws.{bad, next, within, done}
use Rattle.decimal.proofs.digits.Goals as goal

pub loop-i-init : goal.loop-i-init
loop-i-init c = (omega arith, refl)

pub bounds-s-i : goal.bounds-s-i
bounds-s-i c = c.loop-i-test.true

pub returns-in_err-v : goal.returns-in_err-v
returns-in_err-v c =
    let l = c.loop-i in
    let st = c.args in
    let e = sym c.in_err-v.ensures in
    rw c.from_residual.ensures (sym (l.invariant.1 ∙ bad bad_lines (st.max + 1) l.v st.s.now l.i c.loop-i-test.true e))

pub loop-i-preserved : goal.loop-i-preserved
loop-i-preserved c =
    let l = c.loop-i in
    let st = c.args in
    let n = c.in_ok-v.v in
    let e = sym c.in_ok-v.ensures in
    (omega (arith, within (st.max + 1) l.v (get_or st.s.now l.i 0) n e), l.invariant.1 ∙ next bad_lines (st.max + 1) l.v st.s.now l.i c.loop-i-test.true n e)

pub returns : goal.returns
returns c =
    let l = c.loop-i in
    let st = c.args in
    sym (l.invariant.1 ∙ done bad_lines (st.max + 1) l.v st.s.now l.i c.loop-i-test.false (omega (arith, l.invariant.0)))
