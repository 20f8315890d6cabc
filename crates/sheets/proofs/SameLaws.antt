-- Two byte strings compared from a place on: what one more byte tells. Assumes nothing.
use mathlib.Core.Path.{◌≡◌, refl, ap}
use mathlib.Core.Bool.{Bool, true, false, ◌&&◌}
use mathlib.Core.List.{[], ◌∷◌}
use Prim.Native.Nat.{ℕ, suc, ◌+◌, ◌≤◌, ◌<◌}
use native.Mathlib.Numerals.{add-one}
use lib.Dec.{eqb}
use lib.ListN.{length, get_or, drop, drop_of_length-le}
use lib.Seq.{drop-cons}
use borrow.Author.Tests.{eq-eqb, ne_eqb}
use Rattle.sheets.specs.Bytes.{Bytes, same}

and-false : (t : Bool) → t && false ≡ false
and-false true = refl
and-false false = refl

pub lengths_differ : (a b : Bytes) → (length a ≡ length b → ⊥) → same a b ≡ false
lengths_differ [] [] h = absurd (h refl)
lengths_differ [] (y ∷ b) h = refl
lengths_differ (x ∷ a) [] h = refl
lengths_differ (x ∷ a) (y ∷ b) h = rw (lengths_differ a b (λ e. h (ap suc e))) (and-false (eqb x y))

module _ (a b : Bytes) (i : ℕ) where
  pub same_end : length a ≤ i → length b ≤ i → same (drop i a) (drop i b) ≡ true
  same_end h k = rw (drop_of_length-le a h, drop_of_length-le b k)

  pub same_more : i < length a → i < length b → get_or a i 0 ≡ get_or b i 0 → same (drop i a) (drop i b) ≡ same (drop (i + 1) a) (drop (i + 1) b)
  same_more h k e = rw (add-one, drop-cons a i 0, drop-cons b i 0) (rw (eq-eqb (get_or a i 0) (get_or b i 0) e))

  pub differ_at : i < length a → i < length b → (get_or a i 0 ≡ get_or b i 0 → ⊥) → same (drop i a) (drop i b) ≡ false
  differ_at h k e = rw (drop-cons a i 0, drop-cons b i 0) (rw (ne_eqb (get_or a i 0) (get_or b i 0) e))
