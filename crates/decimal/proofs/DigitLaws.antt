-- One byte more: what `digit_after` answers decides all the digits that are left, since more digits never make a number less. Assumes nothing.
use mathlib.Core.Path.{◌≡◌, refl, ap, ◌∙◌}
use mathlib.Core.Bool.{Bool, true, false, ◌&&◌, cond, and-false}
use mathlib.Core.List.{[], ◌∷◌}
use Rattle.std.specs.Prelude.{Option, None, Some}
use Prim.Native.Nat.{ℕ, suc, ◌+◌, ◌-◌, ◌*◌, ◌≤◌, ◌<◌}
use native.Mathlib.Nat.{le_refl, le_trans}
use native.Mathlib.Numerals.{add-one}
use native.Mathlib.Omega.{arith}
use lib.Dec.{ltb}
use lib.ListN.{length, get_or, drop, drop_of_length-le}
use lib.Seq.{drop-cons}
use borrow.Author.Tests.{le-leb, lt-leb, lt-ltb, le-ltb, ltb-true, ltb-false}
use Rattle.sheets.specs.Refusal.{Refusal}
use Rattle.sheets.specs.Rule.{passes}
use Rattle.sheets.specs.Bytes.{Bytes, all}
use Rattle.sheets.specs.Answer.{Answer, refused, given, decide}
use Rattle.sheets.specs.Number.{is_digit, value_from}
use Rattle.sheets.proofs.Tests.{not_some}
use Rattle.decimal.specs.Digits.{digit_after, digits_below}

-- ── one digit: a law for each return of `after`

module _ (limit v b : ℕ) where
  pub low : b < 48 → digit_after limit v b ≡ None
  unfolding digit_after
  low l = rw (lt-leb 48 b l)

  pub high : 57 < b → digit_after limit v b ≡ None
  unfolding digit_after
  high l = rw (le-leb 48 b (omega arith), lt-leb b 57 l)

  pub too_large : 48 ≤ b → b ≤ 57 → limit ≤ v * 10 + (b - 48) → digit_after limit v b ≡ None
  unfolding digit_after
  too_large l u h = rw (le-leb 48 b l, le-leb b 57 u, le-ltb (v * 10 + (b - 48)) limit h)

  pub longer : 48 ≤ b → b ≤ 57 → v * 10 + (b - 48) < limit → digit_after limit v b ≡ Some (v * 10 + (b - 48))
  unfolding digit_after
  longer l u h = rw (le-leb 48 b l, le-leb b 57 u, lt-ltb (v * 10 + (b - 48)) limit h)

-- ── all that are left

grows : (v : ℕ) (t : Bytes) → v ≤ value_from v t
grows v [] = le_refl v
grows v (b ∷ t) = le_trans (omega arith) (grows (v * 10 + (b - 48)) t)

-- what the digits t make of the number before them
abbrev onward : Refusal → ℕ → Bytes → Option ℕ → Answer ℕ
onward r limit t None = refused r
onward r limit t (Some n) = digits_below r limit n t

first_digit : (r : Refusal) (limit v b : ℕ) (t : Bytes) → digits_below r limit v (b ∷ t) ≡ onward r limit t (digit_after limit v b)
unfolding digits_below digit_after
first_digit r limit v b t = pick (is_digit b) (ltb (v * 10 + (b - 48)) limit) refl
  where
    n : ℕ
    n = v * 10 + (b - 48)

    pick : (d m : Bool) → ltb n limit ≡ m → decide r ((d && passes (all is_digit t)) && ltb (value_from n t) limit) (value_from n t) ≡ onward r limit t (cond (d && m) (Some n) None)
    pick false m e = refl
    pick true true e = refl
    pick true false e = rw (le-ltb (value_from n t) limit (le_trans (ltb-false n limit e) (grows n t)), and-false)

module _ (r : Refusal) (limit v : ℕ) (s : Bytes) (i : ℕ) (h : i < length s) where
  step : digits_below r limit v (drop i s) ≡ onward r limit (drop (i + 1) s) (digit_after limit v (get_or s i 0))
  step = rw (drop-cons s i 0, add-one) (first_digit r limit v (get_or s i 0) (drop (suc i) s))

  pub bad : digit_after limit v (get_or s i 0) ≡ None → digits_below r limit v (drop i s) ≡ refused r
  bad e = step ∙ ap (onward r limit (drop (i + 1) s)) e

  pub next : (n : ℕ) → digit_after limit v (get_or s i 0) ≡ Some n → digits_below r limit v (drop i s) ≡ digits_below r limit n (drop (i + 1) s)
  next n e = step ∙ ap (onward r limit (drop (i + 1) s)) e

pub within : (limit v b n : ℕ) → digit_after limit v b ≡ Some n → n < limit
unfolding digit_after
within limit v b n e = pick (is_digit b) (ltb (v * 10 + (b - 48)) limit) refl e
  where
    pick : (d m : Bool) → ltb (v * 10 + (b - 48)) limit ≡ m → cond (d && m) (Some (v * 10 + (b - 48))) None ≡ Some n → n < limit
    pick false m l k = not_some k
    pick true false l k = not_some k
    pick true true l k =
        let same : v * 10 + (b - 48) ≡ n = cc in
        omega (arith, ltb-true (v * 10 + (b - 48)) limit l)

pub done : (r : Refusal) (limit v : ℕ) (s : Bytes) (i : ℕ) → length s ≤ i → v < limit → digits_below r limit v (drop i s) ≡ given v
unfolding digits_below
done r limit v s i e h = rw (drop_of_length-le s e) (simp (lt-ltb v limit h))
