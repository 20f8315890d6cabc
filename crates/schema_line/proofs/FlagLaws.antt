-- A flag of a signed 64-bit number by a mask of one bit: the number stands as its 64 bits, and a bit of these is the definition's (`flag_bit`). And what
-- the source computes for nullable, (z / 2) & 1, which is the definition's reading by division. Assumes nothing.
use mathlib.Core.Path.{◌≡◌, refl, sym, ap, ◌∙◌}
use mathlib.Core.Bool.{not}
use Prim.Native.Nat.{ℕ, zero, suc, zero-le, ◌+◌, ◌-◌, ◌*◌, ◌/◌, ◌%◌, ◌^◌, ◌≤◌, ◌<◌}
use native.Mathlib.Nat.{lt_of_le_of_lt, zero-mul, one-mul}
use native.Mathlib.Omega.{arith}
use lib.Bits.{bit_and, and_high}
use lib.Dec.{eqb}
use lib.IntN.{ℤ, pos, negsuc, neg_ℤ}
use lib.Pow.{pow_pos}
use lib.Signed.{mag, quot_z}
use mir.Syntax.{w64}
use mir.Val.{SFits, to_z, of_z}
use mir.Facts.{to_z-of_z}
use borrow.Author.Tests.{ne_eqb}
use Rattle.sheets.specs.Flags.{odd, bit, nullable_by_division}
use Rattle.sheets.specs.Standard.{stored}
use Rattle.sheets.proofs.StandardFlagLaws.{flag_bit}

-- a bit that is scaled is not 0 exactly if it is 1
scaled : (r p : ℕ) → r < 2 → 0 < p → not (eqb (r * p) 0) ≡ eqb r 1
scaled zero p h q = rw zero-mul
scaled (suc zero) p h q = rw (one-mul, ne_eqb p 0 (omega arith))
scaled (suc (suc r)) p h q = absurd (omega arith)

bits_stored : (z : ℤ) → of_z w64 z ≡ stored z
bits_stored (pos n) = refl
bits_stored (negsuc n) = omega arith

-- z & 2 ^ k != 0
pub masked : (k : ℕ) → k < 64 → (z : ℤ) → SFits w64 z → not (eqb (bit_and (of_z w64 z) (2 ^ (1 + k) - 2 ^ k)) 0) ≡ bit (2 ^ k) z
masked k l z f =
    rw (and_high (of_z w64 z) 1 k)
    (scaled (of_z w64 z / 2 ^ k % 2) (2 ^ k) (omega arith) (pow_pos k) ∙ ap (λ (b : ℕ). odd (b / 2 ^ k)) (bits_stored z) ∙ sym (flag_bit k l z f.sfits))

-- ── the source's reading of nullable on 64 bits

negated_small : (m n : ℕ) → m ≤ suc n → mag (neg_ℤ (pos m)) ≤ n
negated_small zero n h = zero-le
negated_small (suc m) n h = omega arith

half_fits : (z : ℤ) → SFits w64 z → SFits w64 (quot_z z (pos 2))
half_fits (pos n) f = record { sfits = omega (arith, f.sfits) }
half_fits (negsuc n) f = record { sfits = lt_of_le_of_lt (negated_small (suc n / 2) n (omega arith)) f.sfits }

-- its half, rounded toward zero, fits
pub source_fits : (z : ℤ) → SFits w64 z → SFits w64 (quot_z (to_z w64 (of_z w64 z)) (pos 2))
source_fits z f = rw (to_z-of_z f) (half_fits z f)

-- (z / 2) & 1 != 0
pub source_reads : (z : ℤ) → SFits w64 z → not (eqb (bit_and (of_z w64 (quot_z (to_z w64 (of_z w64 z)) (pos 2))) 1) 0) ≡ nullable_by_division z
source_reads z f = rw (to_z-of_z f) (masked 0 (omega arith) (quot_z z (pos 2)) (half_fits z f))
