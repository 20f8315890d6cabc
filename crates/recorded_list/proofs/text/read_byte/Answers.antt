-- `text::read_byte` meets its contract: a byte for itself, or a backslash and two digits that say a byte which does not stand for itself
-- (`ByteLaws`). Assumes nothing.
use mathlib.Core.Path.{sym, ap, subst, ◌∙◌}
use Rattle.std.specs.Prelude.{Some}
use Prim.Native.Nat.{ℕ, ◌+◌}
use native.Mathlib.Omega.{arith}
use lib.ListN.{get_or}
use borrow.Author.Tests.{lt-ltb}
use Rattle.recorded_list.specs.ListText.{is_plain, byte_text}
use Rattle.recorded_list.specs.Reads.{Reads, IsByte}
use Rattle.recorded_list.proofs.ByteLaws.{nothing_there, itself, no_backslash, cut_off, no_digits, plain_escaped, pair_length, by_digits}
use Rattle.recorded_list.proofs.text.read_byte.Goals as goal

pub returns-then-s-at : goal.returns-then-s-at
returns-then-s-at c =
    let a = c.args in
    λ b l. nothing_there a.s.now a.at c.if-s-at.true b

pub returns-then-is_plain : goal.returns-then-is_plain
returns-then-is_plain c =
    let a = c.args in
    let k = sym c.is_plain.ensures ∙ c.if-is_plain.true in
    (lt-ltb (get_or a.s.now a.at 0) 256 (omega (arith, c.type_inv.s a.at)), itself a.s.now a.at c.if-s-at.false k)

pub returns-then-b-ne92 : goal.returns-then-b-ne92
returns-then-b-ne92 c =
    let a = c.args in
    let k = sym c.is_plain.ensures ∙ c.if-is_plain.false in
    λ b l. no_backslash a.s.now a.at c.if-s-at.false k c.if-b-ne92.true b

pub returns-then-s-at-lt3 : goal.returns-then-s-at-lt3
returns-then-s-at-lt3 c =
    let a = c.args in
    let k = sym c.is_plain.ensures ∙ c.if-is_plain.false in
    λ b l. cut_off a.s.now a.at c.if-s-at.false k c.if-s-at-lt3.true b

pub returns-then-not-is_hex : goal.returns-then-not-is_hex
returns-then-not-is_hex c =
    let a = c.args in
    let k = sym c.is_plain.ensures ∙ c.if-is_plain.false in
    no_digits a.s.now a.at c.if-s-at.false k (sym c.is_hex.ensures ∙ c.if-not-is_hex.true)

pub byte_at-c-requires : goal.byte_at-c-requires
byte_at-c-requires c =
    let a = c.args in
    (sym c.is_hex.ensures ∙ c.if-not-is_hex.false, omega (arith, pair_length a.s.now a.at c.if-s-at.false c.if-s-at-lt3.false))

pub returns-then-is_plain-2 : goal.returns-then-is_plain-2
returns-then-is_plain-2 c =
    let a = c.args in
    let k = sym c.is_plain.ensures ∙ c.if-is_plain.false in
    plain_escaped a.s.now a.at c.if-s-at.false k (ap is_plain (sym c.byte_at-c.ensures) ∙ sym c.is_plain-2.ensures ∙ c.if-is_plain-2.true)

pub returns : goal.returns
returns c =
    let a = c.args in
    let d = sym c.is_hex.ensures ∙ c.if-not-is_hex.false in
    let k = ap is_plain (sym c.byte_at-c.ensures) ∙ sym c.is_plain-2.ensures ∙ c.if-is_plain-2.false in
    subst (λ (b : ℕ). Reads IsByte byte_text a.s.now a.at (Some (b, a.at + 3))) (sym c.byte_at-c.ensures)
    (by_digits a.s.now a.at c.if-s-at.false c.if-s-at-lt3.false c.if-b-ne92.false d k)
