-- `number::signed_column` meets its contract: one digit is the number, and any other is read as before. Assumes nothing.
use mathlib.Core.Path.{◌≡◌, refl, sym, ap, ◌∙◌}
use Prim.Native.Nat.{◌+◌, ◌-◌, ◌^◌, ◌<◌}
use native.Mathlib.Omega.{arith}
use lib.IntN.{ℤ, pos}
use lib.ListN.{get_or}
use mir.Facts.{to_z_pos}
use mir.Val.{to_z}
use mir.Syntax.{w64}
use Rattle.sheets.specs.Number.{is_digit}
use Rattle.sheets.specs.Answer.{given}
use Rattle.columns.proofs.OneByteLaws.{one_told}
use Rattle.columns.proofs.OneDigitLaws.{digit_low, digit_signed}
use Rattle.columns.proofs.number.signed_column.Goals as goal

pub bounds-s-at : goal.bounds-s-at
bounds-s-at c =
    let a = c.args in
    let d = one_told is_digit 32 a.s.now a.at (sym c.one_digit.ensures ∙ c.if-one_digit.true) in
    omega (arith, d.room)

pub overflow_sub-s : goal.overflow_sub-s
overflow_sub-s c =
    let a = c.args in
    let d = one_told is_digit 32 a.s.now a.at (sym c.one_digit.ensures ∙ c.if-one_digit.true) in
    omega (arith, digit_low (get_or a.s.now a.at 0) d.holds)

pub overflow_add-result : goal.overflow_add-result
overflow_add-result c =
    let a = c.args in
    let d = one_told is_digit 32 a.s.now a.at (sym c.one_digit.ensures ∙ c.if-one_digit.true) in
    omega (arith, d.room, c.ranges)

pub returns-then-one_digit : goal.returns-then-one_digit
returns-then-one_digit c =
    let a = c.args in
    let d = one_told is_digit 32 a.s.now a.at (sym c.one_digit.ensures ∙ c.if-one_digit.true) in
    let l : c.wide.result < 2 ^ 63 = omega (arith, c.wide.ensures.1) in
    let z : to_z w64 c.wide.result ≡ pos (get_or a.s.now a.at 0 - 48) = to_z_pos w64 l ∙ ap pos c.wide.ensures.0 in
    ap (λ (y : ℤ). given (y, a.at + 1)) z ∙ sym (digit_signed d refl)
