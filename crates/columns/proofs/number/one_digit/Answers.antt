-- `number::one_digit` meets its contract: digits are past the space. Assumes nothing.
use mathlib.Core.Path.{sym, ◌∙◌}
use native.Mathlib.Omega.{arith}
use lib.ListN.{get_or}
use Rattle.sheets.specs.Number.{is_digit}
use Rattle.columns.specs.Columns.{past_space}
use Rattle.columns.proofs.OneByteLaws.{one_told, one_not, one_byte}
use Rattle.columns.proofs.OneDigitLaws.{digit_past, digit_not, digit_to_9}
use Rattle.columns.proofs.number.one_digit.Goals as goal

pub returns-then-not-one_byte : goal.returns-then-not-one_byte
returns-then-not-one_byte c =
    let a = c.args in
    sym (one_not is_digit digit_past a.stop a.s.now a.at (sym c.one_byte.ensures ∙ c.if-not-one_byte.true))

pub bounds-s-at : goal.bounds-s-at
bounds-s-at c =
    let a = c.args in
    let o = one_told past_space a.stop a.s.now a.at (sym c.one_byte.ensures ∙ c.if-not-one_byte.false) in
    omega (arith, o.room)

pub returns-then-s-at-lt48 : goal.returns-then-s-at-lt48
returns-then-s-at-lt48 c =
    let a = c.args in
    let h = sym c.one_byte.ensures ∙ c.if-not-one_byte.false in
    sym (one_byte is_digit digit_past a.stop a.s.now a.at h ∙ digit_not (get_or a.s.now a.at 0) c.if-s-at-lt48.true)

pub bounds-s-at-2 : goal.bounds-s-at-2
bounds-s-at-2 c =
    let a = c.args in
    let o = one_told past_space a.stop a.s.now a.at (sym c.one_byte.ensures ∙ c.if-not-one_byte.false) in
    omega (arith, o.room)

pub returns : goal.returns
returns c =
    let a = c.args in
    let h = sym c.one_byte.ensures ∙ c.if-not-one_byte.false in
    sym (one_byte is_digit digit_past a.stop a.s.now a.at h ∙ digit_to_9 (get_or a.s.now a.at 0) c.if-s-at-lt48.false)
