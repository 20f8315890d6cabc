-- `number::number_column` meets its contract: one digit is the number, and any other is read as before. Assumes nothing.
use mathlib.Core.Path.{sym, ap, ◌∙◌}
use Prim.Native.Nat.{ℕ, ◌+◌}
use native.Mathlib.Omega.{arith}
use lib.ListN.{get_or}
use Rattle.sheets.specs.Number.{is_digit}
use Rattle.sheets.specs.Answer.{given}
use Rattle.columns.proofs.OneByteLaws.{one_told}
use Rattle.columns.proofs.OneDigitLaws.{digit_low, digit_number}
use Rattle.columns.proofs.number.number_column.Goals as goal

pub bounds-s-at : goal.bounds-s-at
bounds-s-at c =
    let a = c.args in
    let d = one_told is_digit a.stop a.s.now a.at (sym c.one_digit.ensures ∙ c.if-one_digit.true) in
    omega (arith, d.room)

pub overflow_sub-s : goal.overflow_sub-s
overflow_sub-s c =
    let a = c.args in
    let d = one_told is_digit a.stop a.s.now a.at (sym c.one_digit.ensures ∙ c.if-one_digit.true) in
    omega (arith, digit_low (get_or a.s.now a.at 0) d.holds)

pub overflow_add-result : goal.overflow_add-result
overflow_add-result c =
    let a = c.args in
    let d = one_told is_digit a.stop a.s.now a.at (sym c.one_digit.ensures ∙ c.if-one_digit.true) in
    omega (arith, d.room, c.ranges)

pub returns-then-one_digit : goal.returns-then-one_digit
returns-then-one_digit c =
    let a = c.args in
    let d = one_told is_digit a.stop a.s.now a.at (sym c.one_digit.ensures ∙ c.if-one_digit.true) in
    ap (λ (n : ℕ). given (n, a.at + 1)) c.wide.ensures.0 ∙ sym (digit_number d c.requires)
