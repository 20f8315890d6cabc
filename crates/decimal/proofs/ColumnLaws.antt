-- What an answer tells of the text that was read, and back: over the limit and the half, so once for all widths. Assumes nothing.
use mathlib.Core.Path.{◌≡◌, refl, sym, ap, subst, ◌∙◌}
use mathlib.Core.Bool.{Bool, true, false, ◌&&◌}
use mathlib.Core.List.{[], ◌∷◌}
use mathlib.Core.Logic.{◌⊎◌, inl, inr}
use Prim.Native.Nat.{ℕ, zero, suc, ◌+◌, ◌≤◌, ◌<◌}
use native.Mathlib.Nat.{not-suc-le-zero}
use native.Mathlib.Omega.{arith}
use lib.Dec.{ltb}
use lib.IntN.{ℤ, pos, negsuc}
use lib.Signed.{mag}
use lib.ListN.{length, get_or, drop}
use borrow.Author.Tests.{eq-eqb, ne_eqb, lt-ltb, le-ltb, ltb-true, ltb-false}
use Rattle.sheets.specs.Refusal.{Refusal, bad_lines}
use Rattle.sheets.specs.Rule.{is, passes}
use Rattle.sheets.specs.Bytes.{Bytes, all}
use Rattle.sheets.specs.Answer.{Answer, refused, given, ◌>>=◌, when, decide}
use Rattle.sheets.specs.Number.{is_digit, value_from, lean, decimal, read_number, negative, write_signed, read_signed}
use Rattle.sheets.specs.Format.{minus}
use Rattle.sheets.proofs.NumberLaws.{read_decimal, read_signed_lem}
use Rattle.sheets.proofs.Tests.{not_given, same_given}
use Rattle.decimal.specs.Digits.{digits_below}
use Rattle.decimal.specs.Column.{column_below, signed_column}

-- ---- a bounded answer, of any type of values and by any size of them

module _ {A : Type 0} (size : A → ℕ) (limit : ℕ) where
  abbrev bounded : Answer A → Answer A
  bounded m = m >>= λ a. when bad_lines (is (ltb (size a) limit)) a

  bounded_within : (m : Answer A) (a : A) → m ≡ given a → size a < limit → bounded m ≡ given a
  bounded_within m a e h = rw e (rw (lt-ltb (size a) limit h))

  bounded_past : (m : Answer A) (a : A) → m ≡ given a → limit ≤ size a → bounded m ≡ refused bad_lines
  bounded_past m a e h = rw e (rw (le-ltb (size a) limit h))

  bounded_refused : (m : Answer A) (r : Refusal) → m ≡ refused r → bounded m ≡ refused r
  bounded_refused m r e = rw e

  bounded_given : (m : Answer A) (a : A) → bounded m ≡ given a → (m ≡ given a) × (size a < limit)
  bounded_given (refused r) a e = not_given e
  bounded_given (given b) a e = pick (ltb (size b) limit) refl e
    where
      pick : (t : Bool) → ltb (size b) limit ≡ t → decide {A = A} bad_lines t b ≡ given a → (◌≡◌ {A = Answer A} (given b) (given a)) × (size a < limit)
      pick true l k =
          let q : b ≡ a = same_given k in
          (ap given q, subst (λ (x : A). size x < limit) q (ltb-true (size b) limit l))
      pick false l k = not_given k

  bounded_bad : (m : Answer A) → bounded m ≡ refused bad_lines → (m ≡ refused bad_lines) ⊎ ((a : A) × (m ≡ given a) × (limit ≤ size a))
  bounded_bad (refused r) e = inl e
  bounded_bad (given b) e = pick (ltb (size b) limit) refl e
    where
      pick : (t : Bool) → ltb (size b) limit ≡ t → decide {A = A} bad_lines t b ≡ refused bad_lines → (◌≡◌ {A = Answer A} (given b) (refused bad_lines)) ⊎ ((a : A) × (◌≡◌ {A = Answer A} (given b) (given a)) × (limit ≤ size a))
      pick true l k = not_given (sym k)
      pick false l k = inr (b, refl, ltb-false (size b) limit l)

-- ---- columns

module _ (limit : ℕ) (t : Bytes) where
  pub column_within : (n : ℕ) → read_number t ≡ given n → n < limit → column_below limit t ≡ given n
  unfolding column_below
  column_within n e h = bounded_within (λ n. n) limit (read_number t) n e h

  pub column_given : (n : ℕ) → column_below limit t ≡ given n → (read_number t ≡ given n) × (n < limit)
  unfolding column_below
  column_given n e = bounded_given (λ n. n) limit (read_number t) n e

  pub column_bad : column_below limit t ≡ refused bad_lines → (read_number t ≡ refused bad_lines) ⊎ ((n : ℕ) × (read_number t ≡ given n) × (limit ≤ n))
  unfolding column_below
  column_bad e = bounded_bad (λ n. n) limit (read_number t) e

module _ (half : ℕ) (t : Bytes) where
  pub signed_within : (z : ℤ) → read_signed t ≡ given z → mag z < half → signed_column half t ≡ given z
  unfolding signed_column
  signed_within z e h = bounded_within mag half (read_signed t) z e h

  pub signed_past : (z : ℤ) → read_signed t ≡ given z → half ≤ mag z → signed_column half t ≡ refused bad_lines
  unfolding signed_column
  signed_past z e h = bounded_past mag half (read_signed t) z e h

  pub signed_refused : (r : Refusal) → read_signed t ≡ refused r → signed_column half t ≡ refused r
  unfolding signed_column
  signed_refused r e = bounded_refused mag half (read_signed t) r e

  pub signed_given : (z : ℤ) → signed_column half t ≡ given z → (read_signed t ≡ given z) × (mag z < half)
  unfolding signed_column
  signed_given z e = bounded_given mag half (read_signed t) z e

-- ---- the number's digits, once they are known to have no spare zero

module _ (limit : ℕ) (t : Bytes) where
  pub column_lean : lean t ≡ true → column_below limit t ≡ digits_below bad_lines limit 0 t
  unfolding column_below digits_below
  column_lean e = rw e (pick (passes (all is_digit t)))
    where
      pick : (d : Bool) → (decide bad_lines d (value_from 0 t) >>= λ n. when bad_lines (is (ltb n limit)) n) ≡ decide bad_lines (d && ltb (value_from 0 t) limit) (value_from 0 t)
      pick true = refl
      pick false = refl

  pub column_spare : lean t ≡ false → column_below limit t ≡ refused bad_lines
  unfolding column_below
  column_spare e = rw e

-- ---- a signed column by its first byte

minus_read : (s : Bytes) → 0 < length s → get_or s 0 0 ≡ 45 → read_signed s ≡ (read_number (drop 1 s) >>= negative)
minus_read [] h e = absurd (not-suc-le-zero h)
minus_read (b ∷ s) h e = rw (eq-eqb b 45 e)

plain_read : (s : Bytes) → 0 < length s → (get_or s 0 0 ≡ 45 → ⊥) → read_signed s ≡ (read_number s >>= λ n. given (pos n))
plain_read [] h e = absurd (not-suc-le-zero h)
plain_read (b ∷ s) h e = rw (ne_eqb b 45 e)

pub signed_none : (half : ℕ) (s : Bytes) → length s ≡ 0 → signed_column half s ≡ refused bad_lines
unfolding signed_column
signed_none half [] e = refl
signed_none half (b ∷ s) e = absurd (omega arith)

module _ (half : ℕ) (s : Bytes) (any : 0 < length s) where
  pub minus_bad : get_or s 0 0 ≡ 45 → column_below (half + 1) (drop 1 s) ≡ refused bad_lines → signed_column half s ≡ refused bad_lines
  minus_bad e q = pick (column_bad (half + 1) (drop 1 s) q)
    where
      past : (n : ℕ) → read_number (drop 1 s) ≡ given n → half + 1 ≤ n → signed_column half s ≡ refused bad_lines
      past zero r l = absurd (omega arith)
      past (suc n) r l = signed_past half s (negsuc n) (minus_read s any e ∙ rw r) (omega arith)

      pick : (read_number (drop 1 s) ≡ refused bad_lines) ⊎ ((n : ℕ) × (read_number (drop 1 s) ≡ given n) × (half + 1 ≤ n)) → signed_column half s ≡ refused bad_lines
      pick (inl r) = signed_refused half s bad_lines (minus_read s any e ∙ rw r)
      pick (inr p) = past p.0 p.1 p.2

  pub minus_zero : get_or s 0 0 ≡ 45 → (m : ℕ) → column_below (half + 1) (drop 1 s) ≡ given m → m ≡ 0 → signed_column half s ≡ refused bad_lines
  minus_zero e m q z =
      let r : read_number (drop 1 s) ≡ given 0 = (column_given (half + 1) (drop 1 s) m q).0 ∙ ap given z in
      signed_refused half s bad_lines (minus_read s any e ∙ rw r)

  pub minus_given : get_or s 0 0 ≡ 45 → (m : ℕ) → column_below (half + 1) (drop 1 s) ≡ given m → (m ≡ 0 → ⊥) → signed_column half s ≡ given (minus m)
  minus_given e zero q z = absurd (z refl)
  minus_given e (suc m) q z =
      let r = column_given (half + 1) (drop 1 s) (suc m) q in
      signed_within half s (negsuc m) (minus_read s any e ∙ rw r.0) (omega (arith, r.1))

  pub plain_bad : (get_or s 0 0 ≡ 45 → ⊥) → column_below half s ≡ refused bad_lines → signed_column half s ≡ refused bad_lines
  plain_bad e q = pick (column_bad half s q)
    where
      pick : (read_number s ≡ refused bad_lines) ⊎ ((n : ℕ) × (read_number s ≡ given n) × (half ≤ n)) → signed_column half s ≡ refused bad_lines
      pick (inl r) = signed_refused half s bad_lines (plain_read s any e ∙ rw r)
      pick (inr p) = signed_past half s (pos p.0) (plain_read s any e ∙ rw p.1) p.2

  pub plain_given : (get_or s 0 0 ≡ 45 → ⊥) → (n : ℕ) → column_below half s ≡ given n → signed_column half s ≡ given (pos n)
  plain_given e n q =
      let r = column_given half s n q in
      signed_within half s (pos n) (plain_read s any e ∙ rw r.0) r.1

-- ---- what was written is read back, at any width

pub column_decimal : (limit n : ℕ) → n < limit → column_below limit (decimal n) ≡ given n
column_decimal limit n h = column_within limit (decimal n) n (read_decimal n) h

pub column_signed : (half : ℕ) (z : ℤ) → mag z < half → signed_column half (write_signed z) ≡ given z
column_signed half z h = signed_within half (write_signed z) z (read_signed_lem z) h
