-- `leaf_at` meets its contract: each test that fails has its part in the rule of such a line, and where none fails the rule is met. Assumes nothing.
use mathlib.Core.Path.{refl, sym, ap, ◌∙◌}
use Prim.Native.Nat.{ℕ, ◌+◌, ◌≤◌}
use lib.ListN.{length}
use native.Mathlib.Omega.{arith}
use Rattle.columns.specs.Columns.{part}
use Rattle.columns.specs.Pairs.{pairs_from}
use Rattle.columns.proofs.PairsLaws.{pairs_within}
use Rattle.field_leaf.specs.FieldLeaves.{kind_of}
use Rattle.field_leaf.proofs.LeafLaws.{kept_high, kept_kind, kept_space, kept_end, kept_flag, kept_there, flag_there, leaf_none, leaf_some, leaf_other, leaf_short}
use Rattle.field_leaf.proofs.leaf_at.Goals as goal

pub returns-then-s-lt-SHORTEST : goal.returns-then-s-lt-SHORTEST
returns-then-s-lt-SHORTEST c =
    let a = c.args in leaf_short a.s.now a.at (omega arith)

pub returns-then-s-at : goal.returns-then-s-at
returns-then-s-at c =
    let a = c.args in leaf_short a.s.now a.at (omega arith)

pub returns-in_err-kind : goal.returns-in_err-kind
returns-in_err-kind c =
    let a = c.args in rw c.from_residual.ensures (leaf_other a.s.now a.at (sym c.in_err-kind.ensures))

pub word8_at-requires : goal.word8_at-requires
word8_at-requires c = omega (arith, c.kind_end-k.ensures.2)

pub returns-then-word8_at-ne-AFTER_KIND : goal.returns-then-word8_at-ne-AFTER_KIND
returns-then-word8_at-ne-AFTER_KIND c =
    let a = c.args in
    leaf_none a.s.now a.at _ (pairs_from a.s.now (c.kind_end-k.result + 9)) c.kind_end-k.ensures.0 refl (λ k. c.if-word8_at-ne-AFTER_KIND.true (kept_kind k c.word8_at.ensures))

pub overflow_add-k : goal.overflow_add-k
overflow_add-k c = omega (arith, c.kind_end-k.ensures.2)

pub bounds-s-k : goal.bounds-s-k
bounds-s-k c = omega (arith, c.kind_end-k.ensures.2)

pub returns-then-s-k-ne32 : goal.returns-then-s-k-ne32
returns-then-s-k-ne32 c =
    let a = c.args in
    leaf_none a.s.now a.at _ (pairs_from a.s.now (c.kind_end-k.result + 9)) c.kind_end-k.ensures.0 refl (λ k. c.if-s-k-ne32.true (kept_space k))

pub overflow_add-from : goal.overflow_add-from
overflow_add-from c = omega (arith, c.kind_end-k.ensures.2)

pub pairs_from-e-requires : goal.pairs_from-e-requires
pairs_from-e-requires c = omega (arith, c.kind_end-k.ensures.2)

pub returns-then-e-from : goal.returns-then-e-from
returns-then-e-from c =
    let a = c.args in
    leaf_none a.s.now a.at _ _ c.kind_end-k.ensures.0 c.pairs_from-e.ensures (λ k. omega (arith, k.long, c.if-e-from.true))

pub overflow_sub-s-2 : goal.overflow_sub-s-2
overflow_sub-s-2 c =
    let a = c.args in pairs_within a.s.now (c.kind_end-k.result + 9) _ c.pairs_from-e.ensures (omega (arith, c.kind_end-k.ensures.2))

pub returns-then-s-e-lt-AFTER_NAME : goal.returns-then-s-e-lt-AFTER_NAME
returns-then-s-e-lt-AFTER_NAME c =
    let a = c.args in
    leaf_none a.s.now a.at _ _ c.kind_end-k.ensures.0 c.pairs_from-e.ensures (λ k. omega (arith, kept_high k, c.if-s-e-lt-AFTER_NAME.true))

pub returns-then-word4_at-ne-LINE_END : goal.returns-then-word4_at-ne-LINE_END
returns-then-word4_at-ne-LINE_END c =
    let a = c.args in
    leaf_none a.s.now a.at _ _ c.kind_end-k.ensures.0 c.pairs_from-e.ensures (λ k. c.if-word4_at-ne-LINE_END.true (kept_end k c.word4_at.ensures))

pub returns-then-w-eq-NOT_NULLABLE : goal.returns-then-w-eq-NOT_NULLABLE
returns-then-w-eq-NOT_NULLABLE c =
    let a = c.args in
    let s = a.s.now in
    let k = c.kind_end-k.result in
    let e = c.pairs_from-e.result in
    let high : e + 7 ≤ length s = omega (arith, c.if-s-e-lt-AFTER_NAME.false) in
    let flag = c.word4_at-w.ensures in
    let kept = kept_there s k e 0 _ _ _ high flag c.if-w-eq-NOT_NULLABLE.true (omega arith) (omega (arith, c.kind_end-k.ensures.2)) c.word8_at.ensures c.if-word8_at-ne-AFTER_KIND.false c.if-s-k-ne32.false (omega (arith, c.if-e-from.false, c.pairs_from-e.ensures)) c.word4_at.ensures c.if-word4_at-ne-LINE_END.false in
    let kind = ap (λ (i : ℕ). kind_of (part s a.at i)) c.kind_end-k.ensures.0 ∙ sym c.in_ok-kind.ensures in
    leaf_some s a.at k e c.kind_end-k.ensures.0 c.pairs_from-e.ensures _ 0 kind kept (flag_there s k e 0 0 _ 0 high flag c.if-w-eq-NOT_NULLABLE.true (omega arith))

pub returns-then-w-eq-NULLABLE : goal.returns-then-w-eq-NULLABLE
returns-then-w-eq-NULLABLE c =
    let a = c.args in
    let s = a.s.now in
    let k = c.kind_end-k.result in
    let e = c.pairs_from-e.result in
    let high : e + 7 ≤ length s = omega (arith, c.if-s-e-lt-AFTER_NAME.false) in
    let flag = c.word4_at-w.ensures in
    let kept = kept_there s k e 1 _ _ _ high flag c.if-w-eq-NULLABLE.true (omega arith) (omega (arith, c.kind_end-k.ensures.2)) c.word8_at.ensures c.if-word8_at-ne-AFTER_KIND.false c.if-s-k-ne32.false (omega (arith, c.if-e-from.false, c.pairs_from-e.ensures)) c.word4_at.ensures c.if-word4_at-ne-LINE_END.false in
    let kind = ap (λ (i : ℕ). kind_of (part s a.at i)) c.kind_end-k.ensures.0 ∙ sym c.in_ok-kind.ensures in
    leaf_some s a.at k e c.kind_end-k.ensures.0 c.pairs_from-e.ensures _ 1 kind kept (flag_there s k e 1 0 _ 0 high flag c.if-w-eq-NULLABLE.true (omega arith))

pub returns : goal.returns
returns c =
    let a = c.args in
    leaf_none a.s.now a.at _ _ c.kind_end-k.ensures.0 c.pairs_from-e.ensures (λ k. omega (arith, kept_flag k c.word4_at-w.ensures, k.flag, c.if-w-eq-NULLABLE.false, c.if-w-eq-NOT_NULLABLE.false))
