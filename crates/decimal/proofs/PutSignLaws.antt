-- Negative numbers: their magnitudes, at any width, and their texts. Assumes nothing.
use mathlib.Core.Path.{◌≡◌, refl, sym, ap, ◌∙◌}
use mathlib.Core.Bool.{true, false, true≢false}
use mathlib.Core.List.{[], ◌∷◌, ◌++◌}
use Prim.Native.Nat.{ℕ, suc, ◌+◌}
use native.Mathlib.Numerals.{add-one}
use native.Mathlib.Omega.{arith}
use lib.Dec.{T, leb-suc-zero}
use lib.IntN.{ℤ, pos, negsuc, nat_abs, ◌-ℤ◌}
use lib.Signed.{mag, lt_z, non_neg}
use mir.Syntax.{Width}
use mir.Val.{SFits}
use borrow.Author.Tests.{le-ltb}
use Rattle.sheets.specs.Number.{decimal, write_signed}

above : (k : ℕ) → negsuc 0 -ℤ negsuc k ≡ pos k
above k = rw (le-ltb (suc k) 1 (omega arith)) (ap pos (omega arith))

-- -1 - z of a negative z
pub turned : (z : ℤ) → lt_z z (pos 0) ≡ true → negsuc 0 -ℤ z ≡ pos (mag z)
turned (pos n) e = absurd (true≢false (sym e ∙ leb-suc-zero n))
turned (negsuc n) e = above n

pub turned_fits : (w : Width) (z : ℤ) → SFits w z → SFits w (pos (mag z))
turned_fits w z f = record { sfits = f.sfits }

pub turned_abs : (z : ℤ) → lt_z z (pos 0) ≡ true → mag z + 1 ≡ nat_abs z
turned_abs (pos n) e = absurd (true≢false (sym e ∙ leb-suc-zero n))
turned_abs (negsuc n) e = add-one n

pub not_below : (z : ℤ) → lt_z z (pos 0) ≡ false → T (non_neg z)
not_below (pos n) e = tt
not_below (negsuc n) e = absurd (true≢false e)

-- ---- texts

pub text_below : (z : ℤ) → lt_z z (pos 0) ≡ true → write_signed z ≡ (45 ∷ []) ++ decimal (nat_abs z)
text_below (pos n) e = absurd (true≢false (sym e ∙ leb-suc-zero n))
text_below (negsuc n) e = refl

pub text_plain : (z : ℤ) → lt_z z (pos 0) ≡ false → write_signed z ≡ decimal (nat_abs z)
text_plain (pos n) e = refl
text_plain (negsuc n) e = absurd (true≢false e)
