-- Parts of hexadecimal text. They go by `hex (bytes_of s) ≡ s`: a part of the text, cut at pairs, is the text of a part of the bytes. Assumes nothing.
use mathlib.Core.Path.{◌≡◌, refl, sym, ap, ap₂, ◌∙◌}
use mathlib.Core.Bool.{Bool, true}
use mathlib.Core.List.{[], ◌∷◌, ◌++◌}
use Prim.Native.Nat.{ℕ, zero, suc, ◌+◌, ◌*◌, ◌/◌, ◌%◌, ◌<◌}
use native.Mathlib.Omega.{arith}
use native.Mathlib.Nat.{not-suc-le-zero, le_of_suc-le-suc}
use lib.ListN.{length, get_or, take, drop}
use Rattle.sheets.specs.Rule.{Meets}
use Rattle.sheets.specs.Bytes.{Bytes, all, is_byte}
use Rattle.sheets.specs.Text.{hex_digit, hex}
use Rattle.sheets.proofs.BytesLaws.{all_append}
use Rattle.sheets.proofs.TextLaws.{unhex_hex}
use Rattle.hexadecimal.specs.Hex.{gives, given_or, is_digit, value_of, is_hex, bytes_of}
use Rattle.hexadecimal.proofs.DigitLaws.{value_below, digit_of_value}
use Rattle.hexadecimal.proofs.HexLaws.{bytes_pair, first_digit, second_digit, hex_after, hex_one, bytes_below}

-- ── there and back

pub bytes_hex : (b : Bytes) → Meets (all is_byte b) → bytes_of (hex b) ≡ b
unfolding bytes_of
bytes_hex b h = ap (given_or []) (unhex_hex b h)

pub is_hex_hex : (b : Bytes) → Meets (all is_byte b) → is_hex (hex b) ≡ true
unfolding is_hex
is_hex_hex b h = ap gives (unhex_hex b h)

pair_hex : (a b : ℕ) → is_digit a ≡ true → is_digit b ≡ true → (hex_digit ((16 * value_of a + value_of b) / 16) ≡ a) × (hex_digit ((16 * value_of a + value_of b) % 16) ≡ b)
pair_hex a b x y =
    let l = value_below a x in
    let m = value_below b y in
    let d : (16 * value_of a + value_of b) / 16 ≡ value_of a = omega arith in
    let r : (16 * value_of a + value_of b) % 16 ≡ value_of b = omega arith in
    (ap hex_digit d ∙ digit_of_value a x, ap hex_digit r ∙ digit_of_value b y)

pub hex_bytes : (s : Bytes) → is_hex s ≡ true → hex (bytes_of s) ≡ s
unfolding bytes_of
hex_bytes [] h = refl
hex_bytes (a ∷ []) h = absurd (hex_one a h)
hex_bytes (a ∷ b ∷ s) h =
    let p = pair_hex a b (first_digit a b s h) (second_digit a b s h) in
    ap hex (bytes_pair a b s h) ∙ ap₂ ◌∷◌ p.0 (ap₂ ◌∷◌ p.1 (hex_bytes s (hex_after a b s h)))

-- ── the text of a part of the bytes

double : (k : ℕ) → 2 * suc k ≡ suc (suc (2 * k))
double k = omega arith

double_next : (k : ℕ) → 2 * suc k + 1 ≡ suc (suc (2 * k + 1))
double_next k = omega arith

pub length_hex : (b : Bytes) → length (hex b) ≡ 2 * length b
length_hex [] = refl
length_hex (x ∷ b) = omega (arith, length_hex b)

pub high_digit : (b : Bytes) (k : ℕ) → k < length b → get_or (hex b) (2 * k) 0 ≡ hex_digit (get_or b k 0 / 16)
high_digit [] k h = absurd (not-suc-le-zero h)
high_digit (x ∷ b) zero h = refl
high_digit (x ∷ b) (suc k) h = rw (double k) (high_digit b k (le_of_suc-le-suc h))

pub low_digit : (b : Bytes) (k : ℕ) → k < length b → get_or (hex b) (2 * k + 1) 0 ≡ hex_digit (get_or b k 0 % 16)
low_digit [] k h = absurd (not-suc-le-zero h)
low_digit (x ∷ b) zero h = refl
low_digit (x ∷ b) (suc k) h = rw (double_next k) (low_digit b k (le_of_suc-le-suc h))

module _ (b : Bytes) (j : ℕ) (h : j < length (hex b)) where
  pub even_digit : j % 2 ≡ 0 → get_or (hex b) j 0 ≡ hex_digit (get_or b (j / 2) 0 / 16)
  even_digit e =
      let d : j ≡ 2 * (j / 2) = omega arith in
      ap (λ i. get_or (hex b) i 0) d ∙ high_digit b (j / 2) (omega (arith, length_hex b))

  pub odd_digit : (j % 2 ≡ 0 → ⊥) → get_or (hex b) j 0 ≡ hex_digit (get_or b (j / 2) 0 % 16)
  odd_digit e =
      let d : j ≡ 2 * (j / 2) + 1 = omega arith in
      ap (λ i. get_or (hex b) i 0) d ∙ low_digit b (j / 2) (omega (arith, length_hex b))

pub take_hex : (n : ℕ) (b : Bytes) → take (2 * n) (hex b) ≡ hex (take n b)
take_hex zero b = refl
take_hex (suc n) [] = rw (double n)
take_hex (suc n) (x ∷ b) = rw (double n, take_hex n b)

pub drop_hex : (n : ℕ) (b : Bytes) → drop (2 * n) (hex b) ≡ hex (drop n b)
drop_hex zero b = refl
drop_hex (suc n) [] = rw (double n)
drop_hex (suc n) (x ∷ b) = rw (double n, drop_hex n b)

pub hex_append : (a b : Bytes) → hex (a ++ b) ≡ hex a ++ hex b
hex_append [] b = refl
hex_append (x ∷ a) b = rw (hex_append a b)

pub all_take : (f : ℕ → Bool) (n : ℕ) (s : Bytes) → Meets (all f s) → Meets (all f (take n s))
all_take f zero s h = refl
all_take f (suc n) [] h = refl
all_take f (suc n) (x ∷ s) h = (h.0, all_take f n s h.1)

pub all_drop : (f : ℕ → Bool) (n : ℕ) (s : Bytes) → Meets (all f s) → Meets (all f (drop n s))
all_drop f zero s h = h
all_drop f (suc n) [] h = refl
all_drop f (suc n) (x ∷ s) h = all_drop f n s h.1

-- ── the parts

module _ (s : Bytes) (h : is_hex s ≡ true) where
  take_text_lem : (n : ℕ) → take (2 * n) s ≡ hex (take n (bytes_of s))
  take_text_lem n = ap (take (2 * n)) (sym (hex_bytes s h)) ∙ take_hex n (bytes_of s)

  drop_text : (k : ℕ) → drop (2 * k) s ≡ hex (drop k (bytes_of s))
  drop_text k = ap (drop (2 * k)) (sym (hex_bytes s h)) ∙ drop_hex k (bytes_of s)

  pub hex_take : (n : ℕ) → is_hex (take (2 * n) s) ≡ true
  hex_take n = ap is_hex (take_text_lem n) ∙ is_hex_hex (take n (bytes_of s)) (all_take is_byte n (bytes_of s) (bytes_below s))

  pub hex_drop : (k : ℕ) → is_hex (drop (2 * k) s) ≡ true
  hex_drop k = ap is_hex (drop_text k) ∙ is_hex_hex (drop k (bytes_of s)) (all_drop is_byte k (bytes_of s) (bytes_below s))

  pub bytes_take : (n : ℕ) → bytes_of (take (2 * n) s) ≡ take n (bytes_of s)
  bytes_take n = ap bytes_of (take_text_lem n) ∙ bytes_hex (take n (bytes_of s)) (all_take is_byte n (bytes_of s) (bytes_below s))

  pub bytes_drop : (k : ℕ) → bytes_of (drop (2 * k) s) ≡ drop k (bytes_of s)
  bytes_drop k = ap bytes_of (drop_text k) ∙ bytes_hex (drop k (bytes_of s)) (all_drop is_byte k (bytes_of s) (bytes_below s))

pub hex_part : (s : Bytes) → is_hex s ≡ true → (k n : ℕ) → is_hex (take (2 * n) (drop (2 * k) s)) ≡ true
hex_part s h k n = hex_take (drop (2 * k) s) (hex_drop s h k) n

pub bytes_part : (s : Bytes) → is_hex s ≡ true → (k n : ℕ) → bytes_of (take (2 * n) (drop (2 * k) s)) ≡ take n (drop k (bytes_of s))
bytes_part s h k n = bytes_take (drop (2 * k) s) (hex_drop s h k) n ∙ ap (take n) (bytes_drop s h k)

-- ── one text after another

module _ (a b : Bytes) (h : is_hex a ≡ true) (k : is_hex b ≡ true) where
  both_text : a ++ b ≡ hex (bytes_of a ++ bytes_of b)
  both_text = ap₂ ◌++◌ (sym (hex_bytes a h)) (sym (hex_bytes b k)) ∙ sym (hex_append (bytes_of a) (bytes_of b))

  both_below : Meets (all is_byte (bytes_of a ++ bytes_of b))
  both_below = all_append is_byte (bytes_of a) (bytes_of b) (bytes_below a) (bytes_below b)

  pub hex_both : is_hex (a ++ b) ≡ true
  hex_both = ap is_hex both_text ∙ is_hex_hex (bytes_of a ++ bytes_of b) both_below

  pub bytes_both : bytes_of (a ++ b) ≡ bytes_of a ++ bytes_of b
  bytes_both = ap bytes_of both_text ∙ bytes_hex (bytes_of a ++ bytes_of b) both_below
