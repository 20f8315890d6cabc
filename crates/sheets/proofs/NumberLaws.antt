-- Numbers read back from their digits. Assumes nothing.
use mathlib.Core.Path.{◌≡◌, refl, ◌∙◌, ap}
use mathlib.Core.Bool.{Bool, true, false, ◌&&◌, not}
use mathlib.Core.List.{[], ◌∷◌}
use Prim.Native.Nat.{ℕ, zero, suc, ◌+◌, ◌/◌, ◌%◌, ◌<◌}
use native.Mathlib.Omega.{arith}
use native.Mathlib.Nat.{div-add-mod'}
use lib.Dec.{eqb, ltb, leb}
use borrow.Author.Tests.{ltb-true, ltb-false, le-leb, leb-true, ne_eqb}
use lib.IntN.{ℤ, pos, negsuc}
use Rattle.sheets.specs.Refusal.{bad_lines}
use Rattle.sheets.specs.Rule.{is, ◌and◌, Meets}
use Rattle.sheets.specs.Bytes.{Bytes, all, lacks}
use Rattle.sheets.specs.Answer.{given}
use Rattle.sheets.specs.Number.{is_digit, digits, decimal, value_from, lean, read_number, write_signed, read_signed}
use Rattle.sheets.proofs.Tests.{when_met, and_left, and_right, not_given}
use Rattle.sheets.proofs.BytesLaws.{all_weaken, all_lacks}

pub digit_is : (d : ℕ) → d < 10 → is_digit (48 + d) ≡ true
digit_is d h = rw (le-leb 48 (48 + d) (omega arith), le-leb (48 + d) 57 (omega arith))

pub value_digits : (k n : ℕ) (rest : Bytes) → n < k → value_from 0 (digits k n rest) ≡ value_from n rest
value_digits zero n rest h = absurd (omega arith)
value_digits (suc k) n rest h = pick (ltb n 10) refl (value_digits k (n / 10) ((48 + n % 10) ∷ rest))
  where
    pick : (t : Bool) → ltb n 10 ≡ t → (n / 10 < k → value_from 0 (digits k (n / 10) ((48 + n % 10) ∷ rest)) ≡ value_from (n / 10) ((48 + n % 10) ∷ rest)) → value_from 0 (digits (suc k) n rest) ≡ value_from n rest
    pick true e next = rw (e, digits) (ap (λ v. value_from v rest) (omega arith))
    pick false e next =
        rw (e, digits)
        (next (omega (arith, ltb-false n 10 e)) ∙ ap (λ v. value_from v rest) (omega (arith, div-add-mod' n 10)))

pub digits_are : (k n : ℕ) (rest : Bytes) → n < k → Meets (all is_digit rest) → Meets (all is_digit (digits k n rest))
digits_are zero n rest h r = r
digits_are (suc k) n rest h r = pick (ltb n 10) refl (digits_are k (n / 10) ((48 + n % 10) ∷ rest))
  where
    pick : (t : Bool) → ltb n 10 ≡ t → (n / 10 < k → Meets (all is_digit ((48 + n % 10) ∷ rest)) → Meets (all is_digit (digits k (n / 10) ((48 + n % 10) ∷ rest)))) → Meets (all is_digit (digits (suc k) n rest))
    pick true e next = rw (e, digits) (digit_is n (ltb-true n 10 e), r)
    pick false e next = rw (e, digits) (next (omega (arith, ltb-false n 10 e)) (digit_is (n % 10) (omega arith), r))

abbrev starts_lean : Bytes → Bool
starts_lean [] = false
starts_lean (b ∷ bs) = not (eqb b 48)

starts : (k n : ℕ) (rest : Bytes) → n < k → 0 < n → starts_lean (digits k n rest) ≡ true
starts zero n rest h p = absurd (omega arith)
starts (suc k) n rest h p = pick (ltb n 10) refl (starts k (n / 10) ((48 + n % 10) ∷ rest))
  where
    pick : (t : Bool) → ltb n 10 ≡ t → (n / 10 < k → 0 < n / 10 → starts_lean (digits k (n / 10) ((48 + n % 10) ∷ rest)) ≡ true) → starts_lean (digits (suc k) n rest) ≡ true
    pick true e next = rw (e, digits) (rw (ne_eqb (48 + n) 48 (omega arith)))
    pick false e next = rw (e, digits) (next (omega (arith, ltb-false n 10 e)) (omega (arith, ltb-false n 10 e)))

starts_lean_lem : (b : Bytes) → starts_lean b ≡ true → lean b ≡ true
starts_lean_lem [] h = h
starts_lean_lem (b ∷ []) h = refl
starts_lean_lem (b ∷ c ∷ bs) h = h

pub decimal_lean : (n : ℕ) → lean (decimal n) ≡ true
unfolding decimal
decimal_lean zero = refl
decimal_lean (suc n) = starts_lean_lem (decimal (suc n)) (starts (suc (suc n)) (suc n) [] (omega arith) (omega arith))

pub decimal_digits : (n : ℕ) → Meets (all is_digit (decimal n))
unfolding decimal
decimal_digits n = digits_are (suc n) n [] (omega arith) refl

pub value_decimal : (n : ℕ) → value_from 0 (decimal n) ≡ n
unfolding decimal
value_decimal n = value_digits (suc n) n [] (omega arith)

pub read_decimal : (n : ℕ) → read_number (decimal n) ≡ given n
read_decimal n = when_met bad_lines (is (lean (decimal n)) and all is_digit (decimal n)) (value_from 0 (decimal n)) (decimal_lean n, decimal_digits n) ∙ ap given (value_decimal n)

-- a token of a number has bytes from `-` to `9` only
abbrev pub is_numeral : ℕ → Bool
is_numeral b = leb 45 b && leb b 57

digit_numeral : (b : ℕ) → is_digit b ≡ true → is_numeral b ≡ true
digit_numeral b h = rw (le-leb 45 b (omega (arith, leb-true 48 b (and_left (leb 48 b) (leb b 57) h))), and_right (leb 48 b) (leb b 57) h)

pub decimal_numeral : (n : ℕ) → Meets (all is_numeral (decimal n))
decimal_numeral n = all_weaken is_digit is_numeral digit_numeral (decimal n) (decimal_digits n)

pub decimal_lacks : (s : ℕ) → is_numeral s ≡ false → (n : ℕ) → Meets (lacks s (decimal n))
decimal_lacks s k n = all_lacks is_numeral s k (decimal n) (decimal_numeral n)

pub signed_numeral : (z : ℤ) → Meets (all is_numeral (write_signed z))
signed_numeral (pos n) = decimal_numeral n
signed_numeral (negsuc n) = (refl, decimal_numeral (suc n))

pub signed_lacks : (s : ℕ) → is_numeral s ≡ false → (z : ℤ) → Meets (lacks s (write_signed z))
signed_lacks s k z = all_lacks is_numeral s k (write_signed z) (signed_numeral z)

-- digits do not begin with a sign
read_unsigned : (b : Bytes) (n : ℕ) → Meets (all is_digit b) → read_number b ≡ given n → read_signed b ≡ given (pos n)
read_unsigned [] n h e = not_given e
read_unsigned (c ∷ cs) n h e = rw (ne_eqb c 45 (omega (arith, leb-true 48 c (and_left (leb 48 c) (leb c 57) h.0))), e)

pub read_signed_lem : (z : ℤ) → read_signed (write_signed z) ≡ given z
read_signed_lem (pos n) = read_unsigned (decimal n) n (decimal_digits n) (read_decimal n)
read_signed_lem (negsuc n) = rw (read_decimal (suc n))
