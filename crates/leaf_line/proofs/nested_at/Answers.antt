-- `nested_at` meets its contract: each test that fails has its part in the rule of such a line, and where none fails the rule is met. Assumes nothing.
use mathlib.Core.Path.{◌≡◌, refl, sym, ap, subst, ◌∙◌}
use Prim.Native.Nat.{ℕ, ◌+◌, ◌-◌}
use native.Mathlib.Omega.{arith}
use Rattle.columns.specs.Pairs.{pairs_from}
use Rattle.columns.proofs.PairsLaws.{pairs_within}
use Rattle.leaf_line.specs.Nested.{named_rows, children_at}
use Rattle.leaf_line.proofs.ShortLaws.{tail_high, Tail, no_flags_lem, flags_told, format_word}
use Rattle.leaf_line.proofs.NestedLaws.{nested_short, nested_other, nested_none, nested_some}
use Rattle.leaf_line.proofs.nested_at.Goals as goal

pub returns-then-s-lt-SHORTEST_NESTED : goal.returns-then-s-lt-SHORTEST_NESTED
returns-then-s-lt-SHORTEST_NESTED c =
    let a = c.args in nested_short a.s.now a.at (omega arith)

pub returns-then-s-at : goal.returns-then-s-at
returns-then-s-at c =
    let a = c.args in nested_short a.s.now a.at (omega arith)

pub returns-then-s-at-ne32 : goal.returns-then-s-at-ne32
returns-then-s-at-ne32 c =
    let a = c.args in
    nested_none a.s.now a.at (pairs_from a.s.now (a.at + 5)) refl (λ l m k. c.if-s-at-ne32.true k.space)

pub returns-in_err-kind : goal.returns-in_err-kind
returns-in_err-kind c =
    let a = c.args in
    rw c.from_residual.ensures (nested_other a.s.now a.at (format_word 4 a.s.now a.at named_rows c.word4_at.ensures (omega arith) ∙ sym c.in_err-kind.ensures))

pub returns-then-e-from : goal.returns-then-e-from
returns-then-e-from c =
    let a = c.args in
    nested_none a.s.now a.at _ c.pairs_from-e.ensures (λ l m k. omega (arith, k.long, c.if-e-from.true))

pub overflow_sub-s-2 : goal.overflow_sub-s-2
overflow_sub-s-2 c =
    let a = c.args in
    pairs_within a.s.now (a.at + 5) _ c.pairs_from-e.ensures (omega arith)

pub returns-then-s-e-lt-AFTER_NAME : goal.returns-then-s-e-lt-AFTER_NAME
returns-then-s-e-lt-AFTER_NAME c =
    let a = c.args in
    nested_none a.s.now a.at _ c.pairs_from-e.ensures (λ l m k. omega (arith, tail_high k.end, c.if-s-e-lt-AFTER_NAME.true))

pub returns-then-s-e-ne32 : goal.returns-then-s-e-ne32
returns-then-s-e-ne32 c =
    let a = c.args in
    nested_none a.s.now a.at _ c.pairs_from-e.ensures (λ l m k. c.if-s-e-ne32.true k.after)

pub returns-then-digit-le-ZERO : goal.returns-then-digit-le-ZERO
returns-then-digit-le-ZERO c =
    let a = c.args in
    nested_none a.s.now a.at _ c.pairs_from-e.ensures (λ l m k. omega (arith, l, c.wide-digit.ensures, c.if-digit-le-ZERO.true))

pub returns-then-children-gt9 : goal.returns-then-children-gt9
returns-then-children-gt9 c =
    let a = c.args in
    nested_none a.s.now a.at _ c.pairs_from-e.ensures (λ l m k. omega (arith, m, c.wide-digit.ensures, c.if-children-gt9.true))

pub returns-in_err-flags : goal.returns-in_err-flags
returns-in_err-flags c =
    let a = c.args in
    let e = c.pairs_from-e.result in
    let n : c.wide-digit.result - 48 ≡ children_at a.s.now e = omega (arith, c.wide-digit.ensures) in
    rw c.from_residual-in_err-flags.ensures (nested_none a.s.now a.at _ c.pairs_from-e.ensures
    (λ l m k. no_flags_lem a.s.now e _ (sym c.in_err-flags.ensures) (subst (λ (i : ℕ). Tail a.s.now e i) (sym n) k.end)))

pub returns : goal.returns
returns c =
    let a = c.args in
    let s = a.s.now in
    let e = c.pairs_from-e.result in
    let n : c.wide-digit.result - 48 ≡ children_at s e = omega (arith, c.wide-digit.ensures) in
    let f = flags_told s e _ _ (sym c.in_ok-flags.ensures) in
    let kind = format_word 4 s a.at named_rows c.word4_at.ensures (omega arith) ∙ sym c.in_ok-kind.ensures in
    nested_some s a.at e c.pairs_from-e.ensures _ n kind (omega (arith, c.if-digit-le-ZERO.false)) (omega (arith, c.if-children-gt9.false))
    (record { space = c.if-s-at-ne32.false; long = omega (arith, c.if-e-from.false, c.pairs_from-e.ensures); after = c.if-s-e-ne32.false; end = f.0 }) f.1
