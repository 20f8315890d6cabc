-- `lists::part_end` meets its contract. The loop's invariant: the place that is looked for is as far from i as the bytes from i on say. Assumes nothing.
use mathlib.Core.Path.{◌≡◌, refl, sym, ◌∙◌, ap}
use Prim.Native.Nat.{ℕ, ◌+◌}
use native.Mathlib.Nat.{add-zero}
use native.Mathlib.Omega.{arith}
use borrow.Author.Rules.{rules}
use Rattle.sheets.proofs.PartLaws.{before_here, before_next, before_past}
use Rattle.field_columns.proofs.lists.part_end.Goals as goal

pub loop-i-init : goal.loop-i-init
loop-i-init c = (search rules, refl)

pub returns-then-s-i : goal.returns-then-s-i
returns-then-s-i c =
    let a = c.args in
    let l = c.loop-i in
    sym (l.invariant.1 ∙ ap (λ (n : ℕ). l.i + n) (before_here a.sep a.s.now l.i c.loop-i-test.true c.if-s-i.true) ∙ add-zero l.i)

pub loop-i-preserved : goal.loop-i-preserved
loop-i-preserved c =
    let a = c.args in
    let l = c.loop-i in
    (search rules, l.invariant.1 ∙ before_next a.sep a.s.now l.i c.loop-i-test.true c.if-s-i.false)

pub returns : goal.returns
returns c =
    let a = c.args in
    let l = c.loop-i in
    let e : c.max.result ≡ l.i = omega (arith, c.max.ensures, l.invariant.0) in
    e ∙ sym (l.invariant.1 ∙ ap (λ (n : ℕ). l.i + n) (before_past a.sep a.s.now l.i c.loop-i-test.false) ∙ add-zero l.i)
