-- The text of a column: by the column's length, and never longer. Assumes nothing.
use mathlib.Core.Path.{◌≡◌, refl, sym, ap, ◌∙◌}
use mathlib.Core.Bool.{Bool, true, false, true≢false}
use mathlib.Core.List.{[], ◌∷◌}
use Prim.Native.Nat.{◌-◌, ◌≤◌}
use native.Mathlib.Omega.{arith}
use lib.Dec.{eqb}
use lib.ListN.{length, take, drop, length-take, length-drop}
use borrow.Author.Tests.{eq-eqb, ne_eqb, eqb-true}
use Rattle.sheets.specs.Bytes.{Bytes}
use Rattle.schema_line.specs.Texts.{text_in}

pub text_one : (t : Bytes) → length t ≡ 1 → take (length t - 1) (drop 1 t) ≡ text_in t
unfolding text_in
text_one [] h = absurd (omega arith)
text_one (c ∷ []) h = refl
text_one (c ∷ d ∷ t) h = absurd (omega arith)

pub text_whole : (t : Bytes) → (length t ≡ 1 → ⊥) → t ≡ text_in t
unfolding text_in
text_whole t h = rw (ne_eqb (length t) 1 h)

pub text_shorter : (t : Bytes) → length (text_in t) ≤ length t
text_shorter t = pick (eqb (length t) 1) refl
  where
    pick : (b : Bool) → eqb (length t) 1 ≡ b → length (text_in t) ≤ length t
    pick true e = omega (arith, ap length (sym (text_one t (eqb-true (length t) 1 e))), length-take (length t - 1) (drop 1 t), length-drop 1 t)
    pick false e = omega (arith, ap length (text_whole t (λ q. true≢false (sym (eq-eqb (length t) 1 q) ∙ e))))
