-- Spare zeros, by the length and the first byte. Assumes nothing.
use mathlib.Core.Path.{◌≡◌, refl, ◌∙◌}
use mathlib.Core.Bool.{true, false, not}
use mathlib.Core.List.{[], ◌∷◌}
use Prim.Native.Nat.{ℕ, ◌-◌, ◌≤◌, ◌<◌}
use native.Mathlib.Nat.{add-zero}
use native.Mathlib.Omega.{arith}
use lib.Dec.{eqb}
use lib.ListN.{length, get_or, drop, drop_of_length-le, length-drop}
use lib.Seq.{get_or-drop}
use Rattle.sheets.specs.Bytes.{Bytes}
use Rattle.sheets.specs.Number.{lean}

lean_long : (t : Bytes) → 1 < length t → lean t ≡ not (eqb (get_or t 0 0) 48)
lean_long [] h = absurd (omega arith)
lean_long (b ∷ []) h = absurd (omega arith)
lean_long (b ∷ c ∷ t) h = refl

lean_single : (t : Bytes) → length t ≡ 1 → lean t ≡ true
lean_single [] h = absurd (omega arith)
lean_single (b ∷ []) h = refl
lean_single (b ∷ c ∷ t) h = absurd (omega arith)

module _ (s : Bytes) (i : ℕ) where
  pub lean_none : length s ≤ i → lean (drop i s) ≡ false
  lean_none h = rw (drop_of_length-le s h)

  pub lean_one : length s - i ≡ 1 → lean (drop i s) ≡ true
  lean_one h = lean_single (drop i s) (length-drop i s ∙ h)

  pub lean_more : i < length s → (length s - i ≡ 1 → ⊥) → lean (drop i s) ≡ not (eqb (get_or s i 0) 48)
  lean_more h k = lean_long (drop i s) (rw (length-drop i s) (omega arith)) ∙ rw (get_or-drop, add-zero)
