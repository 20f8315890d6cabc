-- `signed` meets its contract: by the first byte, and then by what `number` answers. Both bounds come from `column_given`. Assumes nothing.
use Rattle.decimal.proofs.ColumnLaws.{column_given, signed_none, minus_bad, minus_zero, minus_given, plain_bad, plain_given}
use mir.Facts.{to_z-of_z, to_z_pos}
use mir.Syntax.{w64}
use lib.ListN.{drop}
use native.Mathlib.Omega.{arith}
use Prim.Native.Nat.{◌+◌, ◌<◌, ◌^◌}
use mathlib.Core.Path.{sym, ap, ◌∙◌}
use Rattle.sheets.specs.Answer.{given}
use Rattle.decimal.proofs.signed.Goals as goal

pub returns-then-s-eq0 : goal.returns-then-s-eq0
returns-then-s-eq0 c =
    let st = c.args in
    sym (signed_none (st.max + 1) st.s.now c.if-s-eq0.true)

pub returns-in_err-m : goal.returns-in_err-m
returns-in_err-m c =
    let st = c.args in
    let s = st.s.now in
    let half = st.max + 1 in
    let o = sym c.in_err-m.ensures in
    rw c.from_residual.ensures (sym (minus_bad half s (omega arith) c.if-s-eq45.true o))

pub returns-then-m-eq0 : goal.returns-then-m-eq0
returns-then-m-eq0 c =
    let st = c.args in
    let s = st.s.now in
    let half = st.max + 1 in
    let m = c.in_ok-m.m in
    let o = sym c.in_ok-m.ensures in
    sym (minus_zero half s (omega arith) c.if-s-eq45.true m o c.if-m-eq0.true)

pub negated-requires : goal.negated-requires
negated-requires c =
    let st = c.args in
    let s = st.s.now in
    let half = st.max + 1 in
    let m = c.in_ok-m.m in
    let o = sym c.in_ok-m.ensures in
    let l : m < half + 1 = (column_given (half + 1) (drop 1 s) m o).1 in
    omega arith

pub returns-then-s-eq45 : goal.returns-then-s-eq45
returns-then-s-eq45 c =
    let st = c.args in
    let s = st.s.now in
    let half = st.max + 1 in
    let m = c.in_ok-m.m in
    let o = sym c.in_ok-m.ensures in
    ap given (to_z-of_z {w = w64} (record { sfits = c.negated.type_inv }) ∙ c.negated.ensures)
    ∙ sym (minus_given half s (omega arith) c.if-s-eq45.true m o c.if-m-eq0.false)

pub returns-in_err-n : goal.returns-in_err-n
returns-in_err-n c =
    let st = c.args in
    let s = st.s.now in
    let half = st.max + 1 in
    let o = sym c.in_err-n.ensures in
    rw c.from_residual-in_err-n.ensures (sym (plain_bad half s (omega arith) c.if-s-eq45.false o))

pub overflow_cast-result : goal.overflow_cast-result
overflow_cast-result c =
    let st = c.args in
    let s = st.s.now in
    let half = st.max + 1 in
    let n = c.in_ok-n.n in
    let o = sym c.in_ok-n.ensures in
    let h : n < half = (column_given half s n o).1 in
    let l : n < 2 ^ 63 = omega (arith, c.requires) in
    record { sfits = l }

pub returns : goal.returns
returns c =
    let st = c.args in
    let s = st.s.now in
    let half = st.max + 1 in
    let n = c.in_ok-n.n in
    let o = sym c.in_ok-n.ensures in
    let h : n < half = (column_given half s n o).1 in
    let l : n < 2 ^ 63 = omega (arith, c.requires) in
    ap given (to_z_pos w64 l) ∙ sym (plain_given half s (omega arith) c.if-s-eq45.false n o)
