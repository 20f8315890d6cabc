-- `parse::number_below` meets its contract. The loop's invariant: the bytes from `at` on make what those from `i` on make of the value `v` so far.
-- Assumes nothing.
use mathlib.Core.Path.{sym, ap, ◌∙◌}
use Prim.Native.Nat.{◌<◌, ◌+◌}
use native.Mathlib.Omega.{arith}
use lib.ListN.{length, get_or}
use Rattle.sheets.specs.Refusal.{bad_number}
use Rattle.hexadecimal.specs.Hex.{bytes_of}
use Rattle.hexadecimal.proofs.HexLaws.{length_bytes}
use Rattle.decimal.specs.Digits.{digit_after}
use Rattle.decimal.proofs.DigitLaws.{bad, next, within, done}
use Rattle.parse.proofs.DigitLaws.{no_digits, some_digits}
use Rattle.parse.proofs.number_below.Goals as goal

pub returns-then-n-at : goal.returns-then-n-at
returns-then-n-at c =
    let s = c.args.s.now in
    sym (no_digits (c.args.max + 1) (bytes_of s) c.args.at (omega (arith, length_bytes s c.requires)))

pub loop-i-init : goal.loop-i-init
loop-i-init c =
    let s = c.args.s.now in
    let h : c.args.at < length (bytes_of s) = omega (arith, length_bytes s c.requires) in
    (sym (length_bytes s c.requires), omega arith, some_digits (c.args.max + 1) (bytes_of s) c.args.at h)

pub returns-in_err-v : goal.returns-in_err-v
returns-in_err-v c =
    let l = c.loop-i in
    let st = c.args in
    let byte = ap (digit_after (st.max + 1) l.v) (sym c.byte_at.ensures) in
    let e = byte ∙ sym c.in_err-v.ensures in
    let h : l.i < length (bytes_of st.s.now) = omega (arith, l.invariant.0, c.loop-i-test.true) in
    rw c.from_residual.ensures (sym (l.invariant.2 ∙ bad bad_number (st.max + 1) l.v (bytes_of st.s.now) l.i h e))

pub loop-i-preserved : goal.loop-i-preserved
loop-i-preserved c =
    let l = c.loop-i in
    let st = c.args in
    let bs = bytes_of st.s.now in
    let m = c.in_ok-v.v in
    let byte = ap (digit_after (st.max + 1) l.v) (sym c.byte_at.ensures) in
    let e = byte ∙ sym c.in_ok-v.ensures in
    let h : l.i < length bs = omega (arith, l.invariant.0, c.loop-i-test.true) in
    (l.invariant.0, omega (arith, within (st.max + 1) l.v (get_or bs l.i 0) m e), l.invariant.2 ∙ next bad_number (st.max + 1) l.v bs l.i h m e)

pub returns : goal.returns
returns c =
    let l = c.loop-i in
    let st = c.args in
    sym (l.invariant.2 ∙ done bad_number (st.max + 1) l.v (bytes_of st.s.now) l.i (omega (arith, l.invariant.0, c.loop-i-test.false)) (omega (arith, l.invariant.1)))
