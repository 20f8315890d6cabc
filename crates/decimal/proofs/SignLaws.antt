-- Minus a number, at any width. Assumes nothing.
use mathlib.Core.Path.{◌≡◌, refl, ap, ◌∙◌}
use Prim.Native.Nat.{ℕ, zero, suc, ◌-◌, ◌^◌, ◌≤◌}
use native.Mathlib.Nat.{zero-add}
use native.Mathlib.Omega.{arith}
use lib.IntN.{pos, negsuc, ◌-ℤ◌}
use lib.Pow.{pow_pos}
use mir.Syntax.{Width}
use mir.Val.{hbits, SFits}
use Rattle.sheets.specs.Format.{minus}

-- -1 - k
below : (k : ℕ) → negsuc 0 -ℤ pos k ≡ negsuc k
below zero = refl
below (suc k) = ap (λ (n : ℕ). negsuc (suc n)) (zero-add k)

-- -1 - (m - 1)
pub one_less : (m : ℕ) → (m ≡ 0 → ⊥) → negsuc 0 -ℤ pos (m - 1) ≡ minus m
one_less zero h = absurd (h refl)
one_less (suc m) h = below (suc m - 1) ∙ ap negsuc (omega arith)

pub minus_fits : (w : Width) (m : ℕ) → m ≤ 2 ^ hbits w → SFits w (minus m)
minus_fits w zero h = record { sfits = pow_pos (hbits w) }
minus_fits w (suc m) h = record { sfits = h }
