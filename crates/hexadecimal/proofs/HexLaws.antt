-- Hexadecimal text: as pairs of digits, at a place of it, and its parts. The parts' laws go by `hex (bytes_of s) ≡ s`: a part of the text is
-- the text of a part of the bytes. Assumes nothing.
use mathlib.Core.Path.{◌≡◌, refl, sym, ap, ◌∙◌}
use mathlib.Core.Bool.{Bool, true, false, ◌&&◌, cond, true≢false}
use mathlib.Core.List.{[], ◌∷◌}
use Prim.Native.Nat.{ℕ, zero, suc, ◌+◌, ◌-◌, ◌*◌, ◌/◌, ◌%◌, ◌≤◌, ◌<◌}
use native.Mathlib.Nat.{not-suc-le-zero, le_of_suc-le-suc}
use native.Mathlib.Numerals.{add-one}
use native.Mathlib.Omega.{arith}
use lib.Dec.{eqb, leb}
use lib.ListN.{length, get_or, drop, drop_of_length-le}
use lib.Seq.{drop-cons}
use borrow.Author.Tests.{lt-ltb}
use Rattle.sheets.specs.Refusal.{bad_lines}
use Rattle.sheets.specs.Answer.{Answer, refused, given, ◌>>=◌}
use Rattle.sheets.specs.Rule.{Meets}
use Rattle.sheets.specs.Bytes.{Bytes, all, is_byte}
use Rattle.sheets.specs.Text.{digit_value, unhex}
use Rattle.sheets.proofs.Tests.{and_left, and_right}
use Rattle.hexadecimal.specs.Hex.{gives, given_or, is_digit, value_of, is_hex, bytes_of}
use Rattle.hexadecimal.proofs.DigitLaws.{value_below}

-- ── a pair and the text after it

abbrev pair : Answer ℕ → Answer ℕ → Answer Bytes → Answer Bytes
pair m n r = m >>= λ a. n >>= λ b. r >>= λ bs. given ((16 * a + b) ∷ bs)

pair_gives : (m n : Answer ℕ) (r : Answer Bytes) → gives (pair m n r) ≡ (gives m && (gives n && gives r))
pair_gives (refused x) n r = refl
pair_gives (given a) (refused y) r = refl
pair_gives (given a) (given b) (refused z) = refl
pair_gives (given a) (given b) (given bs) = refl

pair_bytes : (m n : Answer ℕ) (r : Answer Bytes) → gives (pair m n r) ≡ true → given_or [] (pair m n r) ≡ (16 * given_or 0 m + given_or 0 n) ∷ given_or [] r
pair_bytes (refused x) n r h = absurd (true≢false (sym h))
pair_bytes (given a) (refused y) r h = absurd (true≢false (sym h))
pair_bytes (given a) (given b) (refused z) h = absurd (true≢false (sym h))
pair_bytes (given a) (given b) (given bs) h = refl

pub hex_pair : (a b : ℕ) (s : Bytes) → is_hex (a ∷ b ∷ s) ≡ (is_digit a && (is_digit b && is_hex s))
unfolding is_hex is_digit
hex_pair a b s = pair_gives (digit_value a) (digit_value b) (unhex s)

pub bytes_pair : (a b : ℕ) (s : Bytes) → is_hex (a ∷ b ∷ s) ≡ true → bytes_of (a ∷ b ∷ s) ≡ (16 * value_of a + value_of b) ∷ bytes_of s
unfolding is_hex bytes_of value_of
bytes_pair a b s h = pair_bytes (digit_value a) (digit_value b) (unhex s) h

module _ (a b : ℕ) (s : Bytes) (h : is_hex (a ∷ b ∷ s) ≡ true) where
  all_three : (is_digit a && (is_digit b && is_hex s)) ≡ true
  all_three = sym (hex_pair a b s) ∙ h

  pub first_digit : is_digit a ≡ true
  first_digit = and_left (is_digit a) (is_digit b && is_hex s) all_three

  pub second_digit : is_digit b ≡ true
  second_digit = and_left (is_digit b) (is_hex s) (and_right (is_digit a) (is_digit b && is_hex s) all_three)

  pub hex_after : is_hex s ≡ true
  hex_after = and_right (is_digit b) (is_hex s) (and_right (is_digit a) (is_digit b && is_hex s) all_three)

pub hex_one : (a : ℕ) → is_hex (a ∷ []) ≡ true → ⊥
unfolding is_hex
hex_one a h = true≢false (sym h)

-- ── the whole text

-- every byte is a digit
abbrev pub all_digits : Bytes → Bool
all_digits [] = true
all_digits (c ∷ s) = is_digit c && all_digits s

-- pairs of digits: digits, and an even number of them
pub even_digits : (s : Bytes) → is_hex s ≡ (eqb (length s % 2) 0 && all_digits s)
unfolding is_hex
even_digits [] = refl
even_digits (a ∷ []) = refl
even_digits (a ∷ b ∷ s) = hex_pair a b s ∙ ap (λ t. is_digit a && (is_digit b && t)) (even_digits s) ∙ swap (is_digit a) (is_digit b) (eqb (length s % 2) 0) ∙ ap (λ n. eqb n 0 && (is_digit a && (is_digit b && all_digits s))) parity
  where
    parity : length s % 2 ≡ length (a ∷ b ∷ s) % 2
    parity = omega arith

    swap : (x y e : Bool) → (x && (y && (e && all_digits s))) ≡ (e && (x && (y && all_digits s)))
    swap true true e = refl
    swap true false true = refl
    swap true false false = refl
    swap false y true = refl
    swap false y false = refl

pub digits_next : (t : Bool) (s : Bytes) (i : ℕ) → i < length s → (t && all_digits (drop i s)) ≡ ((t && is_digit (get_or s i 0)) && all_digits (drop (i + 1) s))
digits_next true s i h = rw (drop-cons s i 0 h, add-one)
digits_next false s i h = refl

pub digits_end : (t : Bool) (s : Bytes) (i : ℕ) → length s ≤ i → (t && all_digits (drop i s)) ≡ t
digits_end true s i h = rw (drop_of_length-le s h)
digits_end false s i h = refl

-- ── at a place

pub digit_at : (s : Bytes) → is_hex s ≡ true → (i : ℕ) → i < length s → is_digit (get_or s i 0) ≡ true
digit_at [] h i l = absurd (not-suc-le-zero l)
digit_at (a ∷ []) h i l = absurd (hex_one a h)
digit_at (a ∷ b ∷ s) h zero l = first_digit a b s h
digit_at (a ∷ b ∷ s) h (suc zero) l = second_digit a b s h
digit_at (a ∷ b ∷ s) h (suc (suc i)) l = digit_at s (hex_after a b s h) i (le_of_suc-le-suc (le_of_suc-le-suc l))

double : (k : ℕ) → 2 * suc k ≡ suc (suc (2 * k))
double k = omega arith

double_next : (k : ℕ) → 2 * suc k + 1 ≡ suc (suc (2 * k + 1))
double_next k = omega arith

pub byte_of_pair : (s : Bytes) → is_hex s ≡ true → (k : ℕ) → 2 * k + 1 < length s → get_or (bytes_of s) k 0 ≡ 16 * value_of (get_or s (2 * k) 0) + value_of (get_or s (2 * k + 1) 0)
byte_of_pair [] h k l = absurd (omega arith)
byte_of_pair (a ∷ []) h k l = absurd (hex_one a h)
byte_of_pair (a ∷ b ∷ s) h zero l = rw (bytes_pair a b s h)
byte_of_pair (a ∷ b ∷ s) h (suc k) l = rw (bytes_pair a b s h, double_next k, double k) (byte_of_pair s (hex_after a b s h) k (omega arith))

-- ── the bytes

pub unhex_is : (s : Bytes) → is_hex s ≡ true → unhex s ≡ given (bytes_of s)
unfolding is_hex bytes_of
unhex_is s h = pick (unhex s) h
  where
    pick : (r : Answer Bytes) → gives r ≡ true → r ≡ given (given_or [] r)
    pick (refused n) e = absurd (true≢false (sym e))
    pick (given b) e = refl

pub length_bytes : (s : Bytes) → is_hex s ≡ true → length (bytes_of s) ≡ length s / 2
unfolding bytes_of
length_bytes [] h = refl
length_bytes (a ∷ []) h = refl
length_bytes (a ∷ b ∷ s) h = rw (bytes_pair a b s h) (omega (arith, length_bytes s (hex_after a b s h)))

pub twice_length : (s : Bytes) → is_hex s ≡ true → 2 * length (bytes_of s) ≡ length s
unfolding bytes_of
twice_length [] h = refl
twice_length (a ∷ []) h = absurd (hex_one a h)
twice_length (a ∷ b ∷ s) h = rw (bytes_pair a b s h) (omega (arith, twice_length s (hex_after a b s h)))

byte : (a b : ℕ) → is_digit a ≡ true → is_digit b ≡ true → is_byte (16 * value_of a + value_of b) ≡ true
byte a b x y = lt-ltb (16 * value_of a + value_of b) 256 (omega (arith, value_below a x, value_below b y))

hex_below : (s : Bytes) → is_hex s ≡ true → Meets (all is_byte (bytes_of s))
unfolding bytes_of
hex_below [] h = refl
hex_below (a ∷ []) h = refl
hex_below (a ∷ b ∷ s) h = rw (bytes_pair a b s h) (byte a b (first_digit a b s h) (second_digit a b s h), hex_below s (hex_after a b s h))

no_bytes : (s : Bytes) → is_hex s ≡ false → bytes_of s ≡ []
unfolding is_hex bytes_of
no_bytes s h = pick (unhex s) h
  where
    pick : (r : Answer Bytes) → gives r ≡ false → given_or [] r ≡ []
    pick (refused n) e = refl
    pick (given b) e = absurd (true≢false e)

pub bytes_below : (s : Bytes) → Meets (all is_byte (bytes_of s))
bytes_below s = pick (is_hex s) refl
  where
    pick : (t : Bool) → is_hex s ≡ t → Meets (all is_byte (bytes_of s))
    pick true e = hex_below s e
    pick false e = rw (no_bytes s e) refl

-- ── the refusal

-- the answer is a value, or refused because a line breaks its rules
abbrev OnlyLines : {A : Type 0} → Answer A → Type 0
OnlyLines (refused n) = n ≡ bad_lines
OnlyLines (given a) = bad_lines ≡ bad_lines

digit_only : (c : ℕ) → OnlyLines (digit_value c)
digit_only c = pick (leb 48 c && leb c 57) (leb 97 c && leb c 102)
  where
    pick : (t u : Bool) → OnlyLines (cond t (given (c - 48)) (cond u (given (c - 87)) (refused bad_lines)))
    pick true u = refl
    pick false true = refl
    pick false false = refl

pair_only : (m n : Answer ℕ) (r : Answer Bytes) → OnlyLines m → OnlyLines n → OnlyLines r → OnlyLines (pair m n r)
pair_only (refused x) n r h k l = h
pair_only (given a) (refused y) r h k l = k
pair_only (given a) (given b) (refused z) h k l = l
pair_only (given a) (given b) (given bs) h k l = refl

unhex_only : (s : Bytes) → OnlyLines (unhex s)
unhex_only [] = refl
unhex_only (a ∷ []) = refl
unhex_only (a ∷ b ∷ s) = pair_only (digit_value a) (digit_value b) (unhex s) (digit_only a) (digit_only b) (unhex_only s)

pub unhex_not : (s : Bytes) → is_hex s ≡ false → unhex s ≡ refused bad_lines
unfolding is_hex
unhex_not s h = pick (unhex s) (unhex_only s) h
  where
    pick : (r : Answer Bytes) → OnlyLines r → gives r ≡ false → r ≡ refused bad_lines
    pick (refused n) e f = ap refused e
    pick (given b) e f = absurd (true≢false f)
