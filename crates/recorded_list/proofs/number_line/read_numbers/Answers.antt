-- `number_line::read_numbers` meets its contract. The loop's invariant: the first numbers are read, a space after each, and the text goes on at i. A line
-- that stood there would go on as the text does (`NumbersLaws`). Assumes nothing.
use mathlib.Core.Path.{◌≡◌, refl, subst}
use mathlib.Core.List.{◌++◌}
use Prim.Native.Nat.{ℕ, ◌-◌}
use native.Mathlib.Omega.{arith}
use lib.ListN.{length, drop, length-append, length-drop, length-set}
use lib.Seq.{length-take-le}
use Rattle.columns.proofs.NumberFindLaws.{finds_number}
use Rattle.recorded_list.proofs.NumbersLaws.{SpacedTo, no_number_yet, next_number, spaced_before, last_number_lem, no_number, no_last_number}
use Rattle.recorded_list.proofs.number_line.read_numbers.Goals as goal

pub loop-n-init : goal.loop-n-init
loop-n-init c = no_number_yet c.args.s.now c.args.at _

pub returns-in_err-value : goal.returns-in_err-value
returns-in_err-value c =
    let a = c.args in
    let l = c.loop-n in
    let told = finds_number a.s.now l.i 32 refl _ c.in_err-value.ensures in
    rw c.from_residual.ensures (no_number a.s.now a.at l.spaced l.n-index l.i l.invariant _ (omega arith) (omega (arith, length-append {A = ℕ}, length-drop {A = ℕ}, length-set {A = ℕ})) told)

pub overflow_add-i : goal.overflow_add-i
overflow_add-i c =
    let told = finds_number c.args.s.now c.loop-n.i 32 refl _ c.in_ok-value.ensures in
    omega (arith, told.0.high)

pub loop-n-preserved : goal.loop-n-preserved
loop-n-preserved c =
    let a = c.args in
    let l = c.loop-n in
    let told = finds_number a.s.now l.i 32 refl _ c.in_ok-value.ensures in
    next_number a.s.now a.at l.spaced l.n-index l.i l.invariant _ _ (omega arith) told

pub returns-in_err-value-2 : goal.returns-in_err-value-2
returns-in_err-value-2 c =
    let a = c.args in
    let l = c.loop-n in
    let told = finds_number a.s.now l.i 10 refl _ c.in_err-value-2.ensures in
    rw c.from_residual-in_err-value-2.ensures (no_last_number a.s.now a.at l.spaced l.n-index l.i l.invariant _ (omega arith) (omega (arith, length-append {A = ℕ}, length-drop {A = ℕ})) told)

pub overflow_add-result : goal.overflow_add-result
overflow_add-result c =
    let told = finds_number c.args.s.now c.loop-n.i 10 refl _ c.in_ok-value-2.ensures in
    omega (arith, told.0.high)

pub returns : goal.returns
returns c =
    let a = c.args in
    let l = c.loop-n in
    let told = finds_number a.s.now l.i 10 refl _ c.in_ok-value-2.ensures in
    let m = length a.out.now - 1 in
    let last = drop m a.out.now in
    let e : l.n-index ≡ m = omega (arith, length-take-le m a.out.now (omega arith)) in
    let h = subst (λ (k : ℕ). SpacedTo a.s.now a.at (l.spaced ++ last) k l.i) e (spaced_before a.s.now a.at l.spaced l.n-index l.i l.invariant last (omega arith)) in
    last_number_lem a.s.now a.at (l.spaced ++ last) m l.i h _ _ (omega (arith, length-append {A = ℕ}, length-drop {A = ℕ})) told
