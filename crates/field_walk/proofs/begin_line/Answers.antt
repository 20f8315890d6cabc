-- `begin_line` meets its contract: a line by itself, or an extension's and that of its inner type at once (`InnerLaws`). Assumes nothing.
use Rattle.std.specs.Prelude.{Ok}
use mathlib.Core.Path.{refl, sym, subst, ◌∙◌}
use Prim.Native.Nat.{◌-◌}
use native.Mathlib.Omega.{arith}
use mathlib.Core.List.{[]}
use lib.ListN.{length, take, drop}
use Rattle.field_walk.specs.Calls.{CallBegins}
use Rattle.field_walk.proofs.InnerLaws.{settled, has_inner, inner_refused, inner_short, inner_few, inner_begun}
use Rattle.refusal.specs.Refusals.{Refusing}
use Rattle.refusal.proofs.ErrLaws.{passed}
use Rattle.field_walk.proofs.begin_line.Goals as goal

pub begin_one-requires-2 : goal.begin_one-requires-2
begin_one-requires-2 c =
    let a = c.args in
    let r = c.begin_one in
    let b = c.in_ok-begun.begun in
    let first = subst (λ (p : Refusing (Unit {0})). CallBegins a.call a.s.now a.tree a.out.now r.new.out (Ok (record { row = b.row; size = b.size; pending = p }))) (settled b.pending (sym c.is_err.ensures.value ∙ c.if-is_err.false)) c.in_ok-begun.ensures in
    has_inner a.call a.s.now a.tree a.out.now r.new.out b.row b.size (sym c.is_inner.ensures ∙ c.if-not-is_inner.false) first c.requires

pub returns-in_err-next : goal.returns-in_err-next
returns-in_err-next c =
    let a = c.args in
    let r = c.begin_one in
    let b = c.in_ok-begun.begun in
    let first = subst (λ (p : Refusing (Unit {0})). CallBegins a.call a.s.now a.tree a.out.now r.new.out (Ok (record { row = b.row; size = b.size; pending = p }))) (settled b.pending (sym c.is_err.ensures.value ∙ c.if-is_err.false)) c.in_ok-begun.ensures in
    rw (passed c.from_residual-in_err-next.result _ c.from_residual-in_err-next.ensures.1)
    (inner_refused a.call a.s.now a.tree a.out.now r.new.out b.row b.size (sym c.is_inner.ensures ∙ c.if-not-is_inner.false) first (take (length r.new.out - c.within-w.result) (drop c.within-w.result r.new.out)) c.begin_one-2.new.out c.in_err-next.field-0.0 c.in_err-next.ensures [])

pub overflow_add-result : goal.overflow_add-result
overflow_add-result c =
    let a = c.args in
    let r = c.begin_one in
    let b = c.in_ok-begun.begun in
    let first = subst (λ (p : Refusing (Unit {0})). CallBegins a.call a.s.now a.tree a.out.now r.new.out (Ok (record { row = b.row; size = b.size; pending = p }))) (settled b.pending (sym c.is_err.ensures.value ∙ c.if-is_err.false)) c.in_ok-begun.ensures in
    omega (arith, inner_short a.call a.s.now a.tree a.out.now r.new.out b.row b.size (sym c.is_inner.ensures ∙ c.if-not-is_inner.false) first _ _ c.in_ok-next.next c.in_ok-next.ensures c.requires)

pub overflow_add-result-2 : goal.overflow_add-result-2
overflow_add-result-2 c =
    let a = c.args in
    let r = c.begin_one in
    let b = c.in_ok-begun.begun in
    let first = subst (λ (p : Refusing (Unit {0})). CallBegins a.call a.s.now a.tree a.out.now r.new.out (Ok (record { row = b.row; size = b.size; pending = p }))) (settled b.pending (sym c.is_err.ensures.value ∙ c.if-is_err.false)) c.in_ok-begun.ensures in
    omega (arith, inner_few a.call a.s.now a.tree a.out.now r.new.out b.row b.size (sym c.is_inner.ensures ∙ c.if-not-is_inner.false) first _ _ c.in_ok-next.next c.in_ok-next.ensures c.requires)

pub returns : goal.returns
returns c =
    let a = c.args in
    let r = c.begin_one in
    let b = c.in_ok-begun.begun in
    let first = subst (λ (p : Refusing (Unit {0})). CallBegins a.call a.s.now a.tree a.out.now r.new.out (Ok (record { row = b.row; size = b.size; pending = p }))) (settled b.pending (sym c.is_err.ensures.value ∙ c.if-is_err.false)) c.in_ok-begun.ensures in
    inner_begun a.call a.s.now a.tree a.out.now r.new.out b.row b.size (sym c.is_inner.ensures ∙ c.if-not-is_inner.false) first _ _ c.in_ok-next.next c.in_ok-next.ensures c.within-w.result c.within-w.ensures refl
