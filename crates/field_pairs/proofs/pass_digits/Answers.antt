-- `pass_digits` meets its contract. The loop's invariant: only digits stand before `i`. The measure is what is left of the length. Assumes nothing.
use mathlib.Core.Path.{refl, sym, ◌∙◌}
use Prim.Native.Nat.{◌+◌}
use native.Mathlib.Omega.{arith}
use Rattle.field_pairs.proofs.PairsLaws.{digits_passed}
use Rattle.field_pairs.proofs.pass_digits.Goals as goal

pub loop-i-init : goal.loop-i-init
loop-i-init c = (c.requires, λ b n. refl)

pub overflow_sub-s : goal.overflow_sub-s
overflow_sub-s c = c.loop-i.invariant.0

pub overflow_add-next : goal.overflow_add-next
overflow_add-next c = omega arith

pub slice_bounds-is_hex-count : goal.slice_bounds-is_hex-count
slice_bounds-is_hex-count c = omega arith

pub slice_bounds-is_hex-start : goal.slice_bounds-is_hex-start
slice_bounds-is_hex-start c = omega arith

pub slice_bounds-is_hex-end : goal.slice_bounds-is_hex-end
slice_bounds-is_hex-end c = omega arith

pub returns-then-not-is_hex : goal.returns-then-not-is_hex
returns-then-not-is_hex c =
    let l = c.loop-i in
    record { within = l.invariant.0; same = l.invariant.1 }

pub loop-i-smaller : goal.loop-i-smaller
loop-i-smaller c = omega arith

pub loop-i-preserved : goal.loop-i-preserved
loop-i-preserved c =
    let l = c.loop-i in
    let s = c.args.s.now in
    (omega arith, λ b n. l.invariant.1 b n ∙ digits_passed s l.i (l.i + 32) (omega arith) (omega arith) b n (sym c.is_hex.ensures ∙ c.if-not-is_hex.false))

pub returns : goal.returns
returns c =
    let l = c.loop-i in
    record { within = l.invariant.0; same = l.invariant.1 }
