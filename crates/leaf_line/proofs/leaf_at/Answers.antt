-- `leaf_at` meets its contract: each test that fails has its part in the rule of such a line, and where none fails the rule is met. Assumes nothing.
use mathlib.Core.Path.{refl, sym, ap, ◌∙◌}
use Prim.Native.Nat.{◌+◌}
use native.Mathlib.Omega.{arith}
use Rattle.columns.specs.Pairs.{pairs_from}
use Rattle.columns.proofs.PairsLaws.{pairs_within}
use Rattle.format_names.specs.ShortNames.{short_rows}
use Rattle.leaf_line.proofs.ShortLaws.{tail_high, no_flags_lem, flags_told, format_word}
use Rattle.leaf_line.proofs.LeafLaws.{leaf_short, leaf_other, leaf_none, leaf_some}
use Rattle.leaf_line.proofs.leaf_at.Goals as goal

pub returns-then-s-lt-SHORTEST : goal.returns-then-s-lt-SHORTEST
returns-then-s-lt-SHORTEST c =
    let a = c.args in
    leaf_short a.s.now a.at (omega arith)

pub returns-then-s-at : goal.returns-then-s-at
returns-then-s-at c =
    let a = c.args in
    leaf_short a.s.now a.at (omega arith)

pub returns-then-s-at-ne32 : goal.returns-then-s-at-ne32
returns-then-s-at-ne32 c =
    let a = c.args in
    leaf_none a.s.now a.at (pairs_from a.s.now (a.at + 3)) refl (λ k. c.if-s-at-ne32.true k.space)

pub returns-in_err-kind : goal.returns-in_err-kind
returns-in_err-kind c =
    let a = c.args in
    rw c.from_residual.ensures (leaf_other a.s.now a.at (format_word 2 a.s.now a.at short_rows c.word2_at.ensures (omega arith) ∙ sym c.in_err-kind.ensures))

pub returns-then-e-from : goal.returns-then-e-from
returns-then-e-from c =
    let a = c.args in
    leaf_none a.s.now a.at _ c.pairs_from-e.ensures (λ k. omega (arith, k.long, c.if-e-from.true))

pub overflow_sub-s-2 : goal.overflow_sub-s-2
overflow_sub-s-2 c =
    let a = c.args in
    pairs_within a.s.now (a.at + 3) _ c.pairs_from-e.ensures (omega arith)

pub returns-then-s-e-lt-AFTER_NAME : goal.returns-then-s-e-lt-AFTER_NAME
returns-then-s-e-lt-AFTER_NAME c =
    let a = c.args in
    leaf_none a.s.now a.at _ c.pairs_from-e.ensures (λ k. omega (arith, tail_high k.end, c.if-s-e-lt-AFTER_NAME.true))

pub returns-then-s-e-ne32 : goal.returns-then-s-e-ne32
returns-then-s-e-ne32 c =
    let a = c.args in
    leaf_none a.s.now a.at _ c.pairs_from-e.ensures (λ k. c.if-s-e-ne32.true k.after)

pub returns-in_err-flags : goal.returns-in_err-flags
returns-in_err-flags c =
    let a = c.args in
    rw c.from_residual-in_err-flags.ensures (leaf_none a.s.now a.at _ c.pairs_from-e.ensures (λ k. no_flags_lem a.s.now _ 0 (sym c.in_err-flags.ensures) k.end))

pub returns : goal.returns
returns c =
    let a = c.args in
    let s = a.s.now in
    let f = flags_told s _ 0 _ (sym c.in_ok-flags.ensures) in
    let kind = format_word 2 s a.at short_rows c.word2_at.ensures (omega arith) ∙ sym c.in_ok-kind.ensures in
    leaf_some s a.at _ c.pairs_from-e.ensures kind
    (record { space = c.if-s-at-ne32.false; long = omega (arith, c.if-e-from.false, c.pairs_from-e.ensures); after = c.if-s-e-ne32.false; end = f.0 }) f.1
