-- One hexadecimal digit: which bytes are digits, by ranges, and that a digit and its value say each other. Assumes nothing.
use mathlib.Core.Path.{◌≡◌, refl, sym, ◌∙◌}
use mathlib.Core.Bool.{Bool, true, false, ◌&&◌, ◌||◌, not, cond, true≢false}
use Prim.Native.Nat.{ℕ, ◌+◌, ◌-◌, ◌*◌, ◌/◌, ◌%◌, ◌≤◌, ◌<◌}
use native.Mathlib.Omega.{arith}
use lib.Dec.{leb, eqb, ltb}
use borrow.Author.Tests.{le-leb, lt-leb, leb-true, leb-false, ltb-true, ltb-false, eqb-true}
use Rattle.sheets.specs.Text.{hex_digit}
use Rattle.sheets.proofs.Tests.{every, at_each, meets, and_left, and_right}
use Rattle.hexadecimal.specs.Hex.{is_digit, value_of}

and-false : (t : Bool) → t && false ≡ false
and-false true = refl
and-false false = refl

module _ (b : ℕ) where
  pub before_0 : b < 48 → is_digit b ≡ false
  unfolding is_digit
  before_0 h = simp (lt-leb 48 b h, lt-leb 97 b (omega arith))

  pub to_9 : 48 ≤ b → b ≤ 57 → (is_digit b ≡ true) × (value_of b ≡ b - 48)
  unfolding is_digit value_of
  to_9 h k = simp (le-leb 48 b h, le-leb b 57 k) (refl, refl)

  pub before_a : 57 < b → b < 97 → is_digit b ≡ false
  unfolding is_digit
  before_a h k = simp (lt-leb b 57 h, lt-leb 97 b k, and-false)

  pub to_f : 97 ≤ b → b ≤ 102 → (is_digit b ≡ true) × (value_of b ≡ b - 87)
  unfolding is_digit value_of
  to_f h k = simp (lt-leb b 57 (omega arith), le-leb 97 b h, le-leb b 102 k, and-false) (refl, refl)

  pub after_f : 102 < b → is_digit b ≡ false
  unfolding is_digit
  after_f h = simp (lt-leb b 57 (omega arith), lt-leb b 102 h, and-false)

  pub from_a : 97 ≤ b → leb b 102 ≡ is_digit b
  from_a h = pick (leb b 102) refl
    where
      pick : (t : Bool) → leb b 102 ≡ t → t ≡ is_digit b
      pick true e = sym (to_f h (leb-true b 102 e)).0
      pick false e = sym (after_f (leb-false b 102 e))

  -- a digit is from `0` on, and from `a` on if it is past `9`, and at most `f`
  pub low : is_digit b ≡ true → 48 ≤ b
  low d = pick (leb 48 b) refl
    where
      pick : (t : Bool) → leb 48 b ≡ t → 48 ≤ b
      pick true e = leb-true 48 b e
      pick false e = absurd (true≢false (sym d ∙ before_0 (leb-false 48 b e)))

  pub letter : is_digit b ≡ true → 57 < b → 97 ≤ b
  letter d h = pick (leb 97 b) refl
    where
      pick : (t : Bool) → leb 97 b ≡ t → 97 ≤ b
      pick true e = leb-true 97 b e
      pick false e = absurd (true≢false (sym d ∙ before_a h (leb-false 97 b e)))

  pub high : is_digit b ≡ true → b ≤ 102
  high d = pick (leb b 102) refl
    where
      pick : (t : Bool) → leb b 102 ≡ t → b ≤ 102
      pick true e = leb-true b 102 e
      pick false e = absurd (true≢false (sym d ∙ after_f (leb-false b 102 e)))

-- a digit's value from its last four bits and whether it is a letter
pub value_by_bits : (b : ℕ) → is_digit b ≡ true → value_of b ≡ b % 16 + 9 * (b / 64)
value_by_bits b d = pick (leb b 57) refl
  where
    pick : (t : Bool) → leb b 57 ≡ t → value_of b ≡ b % 16 + 9 * (b / 64)
    pick true e =
        let h = low b d in
        let l = leb-true b 57 e in
        (to_9 b h l).1 ∙ omega arith
    pick false e =
        let h = letter b d (leb-false b 57 e) in
        let l = high b d in
        (to_f b h l).1 ∙ omega arith

pub digit_by_tens : (n : ℕ) → n < 16 → hex_digit n ≡ 48 + n + 39 * (n / 10)
digit_by_tens n h = pick (ltb n 10) refl
  where
    pick : (t : Bool) → ltb n 10 ≡ t → cond t (48 + n) (87 + n) ≡ 48 + n + 39 * (n / 10)
    pick true e = omega (arith, ltb-true n 10 e)
    pick false e = omega (arith, ltb-false n 10 e)

-- computed at each byte up to `f`: a digit's value is below 16 and has that digit
abbrev returns : ℕ → Bool
unfolding is_digit value_of
returns c = not (is_digit c) || (ltb (value_of c) 16 && eqb (hex_digit (value_of c)) c)

or_not_lem : (a b : Bool) → a ≡ true → (not a || b) ≡ true → b ≡ true
or_not_lem true b h k = k
or_not_lem false b h k = absurd (true≢false (sym h))

digit_value : (c : ℕ) → is_digit c ≡ true → (ltb (value_of c) 16 && eqb (hex_digit (value_of c)) c) ≡ true
unfolding is_digit value_of
digit_value c d =
    or_not_lem (is_digit c) (ltb (value_of c) 16 && eqb (hex_digit (value_of c)) c) d
    (at_each 103 returns (meets (every 103 returns) refl) c (omega (arith, high c d)))

pub value_below : (c : ℕ) → is_digit c ≡ true → value_of c < 16
value_below c d = ltb-true (value_of c) 16 (and_left (ltb (value_of c) 16) (eqb (hex_digit (value_of c)) c) (digit_value c d))

pub digit_of_value : (c : ℕ) → is_digit c ≡ true → hex_digit (value_of c) ≡ c
digit_of_value c d = eqb-true (hex_digit (value_of c)) c (and_right (ltb (value_of c) 16) (eqb (hex_digit (value_of c)) c) (digit_value c d))
