-- `put_digits` meets its contract. The loop's invariant: the digits of the first `k` bytes are written. The measure is how many pairs are left. Assumes nothing.
use mathlib.Core.Path.{◌≡◌, refl, ap, ap₂, sym, ◌∙◌}
use Prim.Native.Nat.{ℕ, ◌+◌, ◌-◌, ◌*◌, ◌/◌, ◌%◌, ◌<◌}
use native.Mathlib.Omega.{arith}
use lib.ListN.{length, get_or, take, set, length-set}
use Rattle.sheets.specs.Bytes.{Bytes}
use Rattle.sheets.specs.Text.{hex_digit, hex}
use Rattle.buffer.specs.Over.{over}
use Rattle.buffer.proofs.OverLaws.{length_over, over_more, over_take}
use Rattle.hexadecimal.proofs.PartLaws.{length_hex, high_digit, low_digit}
use Rattle.hexadecimal.proofs.put.put_digits.Goals as goal

module _ (s out : Bytes) (k : ℕ) (h : k < length s) where
  -- the first digit of a pair
  half : 2 * k < length out → (m : Bytes) (d : ℕ) → m ≡ over (take (2 * k) (hex s)) out → d ≡ hex_digit (get_or s k 0 / 16)
      → set m (2 * k) d ≡ over (take (2 * k + 1) (hex s)) out
  half l m d e f =
      ap₂ (λ (x : Bytes) (b : ℕ). set x (2 * k) b) e (f ∙ sym (high_digit s k h))
      ∙ over_more (hex s) out (2 * k) (omega (arith, length_hex s)) l

  -- both digits
  pair : 2 * k + 1 < length out → (m : Bytes) (d e : ℕ) → m ≡ over (take (2 * k) (hex s)) out → d ≡ hex_digit (get_or s k 0 / 16) → e ≡ hex_digit (get_or s k 0 % 16)
      → set (set m (2 * k) d) (2 * k + 1) e ≡ over (take (2 * (k + 1)) (hex s)) out
  pair l m d e i f g =
      let n : 2 * k + 1 + 1 ≡ 2 * (k + 1) = omega arith in
      ap₂ (λ (x : Bytes) (b : ℕ). set x (2 * k + 1) b) (half (omega arith) m d i f) (g ∙ sym (low_digit s k h))
      ∙ over_more (hex s) out (2 * k + 1) (omega (arith, length_hex s)) l
      ∙ ap (λ (j : ℕ). over (take j (hex s)) out) n

pub overflow_mul-s : goal.overflow_mul-s
overflow_mul-s c = omega (arith, c.requires, length_hex c.args.s.now)

pub loop-k-init : goal.loop-k-init
unfolding over
loop-k-init c = (omega arith, refl, c.within-n.ensures, refl)

pub bounds-s-k : goal.bounds-s-k
bounds-s-k c = omega arith

pub digit_of-requires : goal.digit_of-requires
digit_of-requires c = omega (arith, c.shared_slice_known-in-loop-k-1.given c.loop-k.k)

pub bounds-out-k : goal.bounds-out-k
bounds-out-k c =
    let l = c.loop-k in
    let a = c.args in
    omega (arith, ap length l.invariant.3, length_over (take (2 * l.k) (hex a.s.now)) a.out.now)

pub bounds-s-k-in-loop-k : goal.bounds-s-k-in-loop-k
bounds-s-k-in-loop-k c = omega arith

pub bounds-out-k-in-loop-k : goal.bounds-out-k-in-loop-k
bounds-out-k-in-loop-k c =
    let l = c.loop-k in
    let a = c.args in
    omega (arith, length-set l.out (2 * l.k) c.digit_of.result, ap length l.invariant.3, length_over (take (2 * l.k) (hex a.s.now)) a.out.now)

pub loop-k-preserved : goal.loop-k-preserved
loop-k-preserved c =
    let l = c.loop-k in
    let a = c.args in
    (omega arith, l.invariant.1, l.invariant.2, pair a.s.now a.out.now l.k (omega arith) (omega arith) l.out _ _ l.invariant.3 c.digit_of.ensures c.digit_of-in-loop-k.ensures)

pub bounds-s-n : goal.bounds-s-n
bounds-s-n c = omega arith

pub digit_of-requires-then-n-eq1 : goal.digit_of-requires-then-n-eq1
digit_of-requires-then-n-eq1 c = omega (arith, c.shared_slice_known-then-n-eq1-1.given (c.within-n.result / 2))

pub bounds-out-n : goal.bounds-out-n
bounds-out-n c =
    let l = c.loop-k in
    let a = c.args in
    omega (arith, ap length l.invariant.3, length_over (take (2 * l.k) (hex a.s.now)) a.out.now)

pub shape_of-out-then-n-eq1 : goal.shape_of-out-then-n-eq1
shape_of-out-then-n-eq1 c =
    let l = c.loop-k in
    length-set l.out _ c.digit_of-then-n-eq1.result ∙ ap length l.invariant.3 ∙ length_over (take (2 * l.k) _) _

pub returns-then-n-eq1 : goal.returns-then-n-eq1
returns-then-n-eq1 c =
    let l = c.loop-k in
    let a = c.args in
    let n = c.within-n.result in
    let e : n - 1 ≡ 2 * l.k = omega arith in
    let h : n / 2 ≡ l.k = omega arith in
    ap (λ (j : ℕ). set l.out j c.digit_of-then-n-eq1.result) e
    ∙ half a.s.now a.out.now l.k (omega arith) (omega arith) l.out c.digit_of-then-n-eq1.result l.invariant.3 (c.digit_of-then-n-eq1.ensures ∙ ap (λ (j : ℕ). hex_digit (get_or a.s.now j 0 / 16)) h)
    ∙ over_take _ _ (2 * l.k + 1) (omega (arith, length_hex a.s.now))

pub shape_of-out-else-n-eq1 : goal.shape_of-out-else-n-eq1
shape_of-out-else-n-eq1 c = ap length c.loop-k.invariant.3 ∙ length_over (take (2 * c.loop-k.k) _) _

pub returns-else-n-eq1 : goal.returns-else-n-eq1
returns-else-n-eq1 c =
    let l = c.loop-k in
    let s = c.args.s.now in
    l.invariant.3 ∙ over_take _ _ (2 * l.k) (omega (arith, length_hex s))
