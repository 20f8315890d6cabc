-- Digits written from the last to the first, as `sheets` defines them: one digit more, the first digit, and how many there are. Assumes nothing.
use mathlib.Core.Path.{◌≡◌, refl, sym, ap, ap₂, subst, ◌∙◌}
use mathlib.Core.Bool.{Bool, true, false}
use mathlib.Core.List.{[], ◌∷◌}
use Prim.Native.Nat.{ℕ, zero, suc, ◌+◌, ◌-◌, ◌/◌, ◌%◌, ◌^◌, ◌≤◌, ◌<◌}
use native.Mathlib.Nat.{not-suc-le-zero, le_of_suc-le-suc, le_trans, pow-suc}
use native.Mathlib.Omega.{arith}
use lib.Dec.{ltb}
use lib.IntN.{ℤ, pos, negsuc}
use lib.Signed.{mag}
use lib.ListN.{length, set, drop}
use borrow.Author.Tests.{lt-ltb, le-ltb, ltb-false}
use Rattle.sheets.specs.Bytes.{Bytes}
use Rattle.sheets.specs.Number.{digits, decimal, write_signed}
use Rattle.buffer.specs.Over.{over_at}
use Rattle.buffer.proofs.OverLaws.{over_at_append}

-- any bound above the number gives the same digits
digits_bound : (k j n : ℕ) (rest : Bytes) → n < k → n < j → digits k n rest ≡ digits j n rest
digits_bound zero j n rest h l = absurd (omega arith)
digits_bound (suc k) zero n rest h l = absurd (omega arith)
digits_bound (suc k) (suc j) n rest h l = pick (ltb n 10) refl (digits_bound k j (n / 10) ((48 + n % 10) ∷ rest))
  where
    pick : (t : Bool) → ltb n 10 ≡ t → (n / 10 < k → n / 10 < j → digits k (n / 10) ((48 + n % 10) ∷ rest) ≡ digits j (n / 10) ((48 + n % 10) ∷ rest)) → digits (suc k) n rest ≡ digits (suc j) n rest
    pick true e next = rw (e, digits)
    pick false e next = rw (e, digits) (next (omega (arith, ltb-false n 10 e)) (omega (arith, ltb-false n 10 e)))

-- the digits of m in front of the rest, of any number of digits
abbrev pub before : ℕ → Bytes → Bytes
before m rest = digits (suc m) m rest

pub decimal_start : (n : ℕ) → decimal n ≡ before n []
unfolding decimal
decimal_start n = refl

pub first_digit : (m : ℕ) (rest : Bytes) → m < 10 → before m rest ≡ (48 + m) ∷ rest
first_digit m rest h = rw (lt-ltb m 10 h, digits)

pub last_digit : (m : ℕ) (rest : Bytes) → 10 ≤ m → before m rest ≡ before (m / 10) ((48 + m % 10) ∷ rest)
last_digit m rest h = rw (le-ltb m 10 h, digits) (digits_bound m (suc (m / 10)) (m / 10) ((48 + m % 10) ∷ rest) (omega arith) (omega arith))

-- ---- into an array, from its end

drop_set : (l : Bytes) (j v : ℕ) → j < length l → drop j (set l j v) ≡ v ∷ drop (suc j) l
drop_set [] j v h = absurd (not-suc-le-zero h)
drop_set (x ∷ l) zero v h = refl
drop_set (x ∷ l) (suc j) v h = drop_set l j v (le_of_suc-le-suc h)

stored : (l : Bytes) (i v : ℕ) → 0 < i → i ≤ length l → drop (i - 1) (set l (i - 1) v) ≡ v ∷ drop i l
stored l i v h k =
    let e : suc (i - 1) ≡ i = omega arith in
    drop_set l (i - 1) v (omega arith) ∙ rw e

module _ (l : Bytes) (i m : ℕ) (h : 0 < i) (k : i ≤ length l) where
  pub one_more : 10 ≤ m → before m (drop i l) ≡ before (m / 10) (drop (i - 1) (set l (i - 1) (48 + m % 10)))
  one_more t = last_digit m (drop i l) t ∙ ap (before (m / 10)) (sym (stored l i (48 + m % 10) h k))

  pub all_written : m < 10 → before m (drop i l) ≡ drop (i - 1) (set l (i - 1) (48 + m))
  all_written t = first_digit m (drop i l) t ∙ sym (stored l i (48 + m) h k)

-- two bytes written one after the other
pub two_bytes : (at m n x y : ℕ) (a b c : Bytes) → m ≡ at + 1 → b ≡ over_at at (x ∷ []) a → n ≡ m + 1 → c ≡ over_at m (y ∷ []) b
    → (n ≡ at + 2) × (c ≡ over_at at (x ∷ y ∷ []) a)
two_bytes at m n x y a b c p q r s = (omega arith, s ∙ ap₂ (λ (i : ℕ) (o : Bytes). over_at i (y ∷ []) o) p q ∙ sym (over_at_append at (x ∷ []) (y ∷ []) a))

-- a number of two digits
pub two_digits : (n : ℕ) → 10 ≤ n → n < 100 → decimal n ≡ (48 + n / 10) ∷ (48 + n % 10) ∷ []
two_digits n l h = decimal_start n ∙ last_digit n [] l ∙ first_digit (n / 10) ((48 + n % 10) ∷ []) (omega arith)

-- a number of at most i digits, which has two or more
pub room : (i m : ℕ) → m < 10 ^ i → 10 ≤ m → 1 < i
room zero m h p = absurd (omega arith)
room (suc zero) m h p = absurd (omega arith)
room (suc (suc i)) m h p = omega arith

pub shrinks : (i m : ℕ) → m < 10 ^ i → 0 < i → m / 10 < 10 ^ (i - 1)
shrinks zero m h p = absurd (omega arith)
shrinks (suc i) m h p =
    let e : suc i - 1 ≡ i = omega arith in
    rw e (omega (arith, subst (λ (k : ℕ). m < k) (pow-suc 10 i) h))

-- ---- how many digits

digits_short : (k j n : ℕ) (rest : Bytes) → n < k → 0 < j → n < 10 ^ j → length (digits k n rest) ≤ j + length rest
digits_short zero j n rest h p b = absurd (omega arith)
digits_short (suc k) j n rest h p b = pick (ltb n 10) refl (digits_short k (j - 1) (n / 10) ((48 + n % 10) ∷ rest))
  where
    pick : (t : Bool) → ltb n 10 ≡ t → (n / 10 < k → 0 < j - 1 → n / 10 < 10 ^ (j - 1) → length (digits k (n / 10) ((48 + n % 10) ∷ rest)) ≤ (j - 1) + suc (length rest)) → length (digits (suc k) n rest) ≤ j + length rest
    pick true e next = rw (e, digits) (omega arith)
    pick false e next =
        let r = room j n b (ltb-false n 10 e) in
        rw (e, digits) (le_trans (next (omega (arith, ltb-false n 10 e)) (omega arith) (shrinks j n b p)) (omega arith))

pub decimal_length : (j n : ℕ) → 0 < j → n < 10 ^ j → length (decimal n) ≤ j
unfolding decimal
decimal_length j n p h = le_trans (digits_short (suc n) j n [] (omega arith) p h) (omega arith)

-- every `u64`
pub decimal_short : (n : ℕ) → n < 2 ^ 64 → length (decimal n) ≤ 20
decimal_short n h = decimal_length 20 n (omega arith) (omega arith)

-- every `i64`
pub signed_short : (z : ℤ) → mag z < 2 ^ 63 → length (write_signed z) ≤ 20
signed_short (pos n) h = decimal_short n (omega arith)
signed_short (negsuc n) h = omega (arith, decimal_length 19 (suc n) (omega arith) (omega arith))
