-- A text's column: one byte, `~` or `-`, or pairs of digits; and byte 00 in it, which is the pair 00. Assumes nothing.
use mathlib.Core.Path.{◌≡◌, refl, sym, ap, ap₂, ◌∙◌}
use mathlib.Core.Bool.{Bool, true, false, ◌&&◌, ◌||◌, not, cond, true≢false, and-true, and-false, and_assoc}
use mathlib.Core.List.{[], ◌∷◌}
use Rattle.std.specs.Prelude.{Option, None, Some}
use Prim.Native.Nat.{ℕ, zero, suc, ◌+◌, ◌-◌, ◌*◌, ◌/◌, ◌≤◌, ◌<◌}
use native.Mathlib.Numerals.{add-one}
use native.Mathlib.Omega.{arith}
use lib.Dec.{eqb}
use lib.ListN.{length, get_or, drop, drop_of_length-le, length-drop}
use lib.Seq.{drop-cons}
use borrow.Author.Tests.{eq-eqb, ne_eqb, eqb-true, not-true, lt-ltb}
use Rattle.sheets.specs.Refusal.{bad_lines}
use Rattle.sheets.specs.Rule.{passes, Meets}
use Rattle.sheets.specs.Bytes.{Bytes, all, lacks, is_byte}
use Rattle.sheets.specs.Answer.{Answer, refused, given, ◌>>=◌}
use Rattle.sheets.specs.Text.{hex_digit, hex, unhex, read_text}
use Rattle.sheets.proofs.Tests.{never, and_left, and_right}
use Rattle.sheets.proofs.TextLaws.{unhex_hex}
use Rattle.hexadecimal.specs.Hex.{gives, is_digit, value_of, is_hex, bytes_of}
use Rattle.hexadecimal.proofs.DigitLaws.{digit_of_value}
use Rattle.hexadecimal.proofs.HexLaws.{unhex_is, digit_at, byte_of_pair, length_bytes}
use Rattle.columns.specs.Columns.{past_space, column_of}
use Rattle.columns.specs.TextColumns.{is_mark, is_zero, zeros_apart, is_text, lacks_zero_in, is_cstring}
use Rattle.columns.proofs.OneByteLaws.{One, one_past, one_part, one_column}
use Rattle.columns.proofs.FindLaws.{column_is}

-- ── which columns are texts

pub text_none : (s : Bytes) → length s ≡ 0 → is_text s ≡ false
unfolding is_text
text_none [] h = refl
text_none (c ∷ s) h = absurd (omega arith)

pub text_some : (s : Bytes) → is_text s ≡ true → 0 < length s
unfolding is_text
text_some [] h = absurd (true≢false (sym h))
text_some (c ∷ s) h = omega arith

-- a column of one byte that is `~`, or is `-`, or is neither
abbrev marked : Bool → Bool → Answer (Option Bytes)
marked t u = cond (t && true) (given None) (cond (u && true) (given (Some [])) (refused bad_lines))

marked_gives : (t u : Bool) → gives (marked t u) ≡ (t || u)
marked_gives true u = refl
marked_gives false true = refl
marked_gives false false = refl

marked_zero : (t u : Bool) → gives (marked t u) ≡ true → lacks_zero_in (marked t u) ≡ true
marked_zero true u e = refl
marked_zero false true e = refl
marked_zero false false e = absurd (true≢false (sym e))

pub mark_null : (b : ℕ) → b ≡ 126 → true ≡ is_mark b
mark_null b e = rw (eq-eqb b 126 e)

pub mark_other : (b : ℕ) → (b ≡ 126 → ⊥) → eqb b 45 ≡ is_mark b
mark_other b e = rw (ne_eqb b 126 e)

pub text_one : (s : Bytes) → length s ≡ 1 → is_text s ≡ is_mark (get_or s 0 0)
unfolding is_text
text_one [] h = absurd (omega arith)
text_one (c ∷ []) h = marked_gives (eqb c 126) (eqb c 45)
text_one (c ∷ d ∷ s) h = absurd (omega arith)

text_pairs : (s : Bytes) → 2 ≤ length s → read_text s ≡ (unhex s >>= λ bs. given (Some bs))
text_pairs [] h = absurd (omega arith)
text_pairs (c ∷ []) h = absurd (omega arith)
text_pairs (c ∷ d ∷ s) h = simp and-false

-- the hexadecimal of bytes, at least one, is the text that they are
pub hex_text : (c b : Bytes) → 0 < length c → c ≡ hex b → Meets (all is_byte b) → read_text c ≡ given (Some b)
hex_text c [] n e h = absurd (omega (arith, ap length e))
hex_text c (x ∷ b) n e h = ap read_text e ∙ text_pairs (hex (x ∷ b)) (omega arith) ∙ ap (λ (a : Answer Bytes). a >>= λ bs. given (Some bs)) (unhex_hex (x ∷ b) h)

some_gives : (a : Answer Bytes) → gives (a >>= λ bs. given (Some bs)) ≡ gives a
some_gives (refused r) = refl
some_gives (given b) = refl

pub text_long : (s : Bytes) → 2 ≤ length s → is_text s ≡ is_hex s
unfolding is_text is_hex
text_long s h = ap gives (text_pairs s h) ∙ some_gives (unhex s)

-- ── byte 00

digit_zero : (a : ℕ) → is_digit a ≡ true → value_of a ≡ 0 → a ≡ 48
digit_zero a d e = sym (digit_of_value a d) ∙ ap hex_digit e

zero_value : value_of 48 ≡ 0
unfolding value_of
zero_value = refl

pub zero_first : (a b : ℕ) → (a ≡ 48 → ⊥) → false ≡ is_zero a b
zero_first a b e = rw (ne_eqb a 48 e)

pub zero_second : (a b : ℕ) → a ≡ 48 → eqb b 48 ≡ is_zero a b
zero_second a b e = rw (eq-eqb a 48 e)

-- the digits of byte 00 are 0 and 0
zero_digits : (a b : ℕ) → is_digit a ≡ true → is_digit b ≡ true → is_zero a b ≡ eqb (16 * value_of a + value_of b) 0
zero_digits a b d e = pick (is_zero a b) refl
  where
    pick : (t : Bool) → is_zero a b ≡ t → t ≡ eqb (16 * value_of a + value_of b) 0
    pick true z =
        let p : value_of a ≡ 0 = ap value_of (eqb-true a 48 (and_left (eqb a 48) (eqb b 48) z)) ∙ zero_value in
        let q : value_of b ≡ 0 = ap value_of (eqb-true b 48 (and_right (eqb a 48) (eqb b 48) z)) ∙ zero_value in
        sym (eq-eqb (16 * value_of a + value_of b) 0 (omega arith))
    pick false z = sym (ne_eqb (16 * value_of a + value_of b) 0 (λ n.
        let p : a ≡ 48 = digit_zero a d (omega arith) in
        let q : b ≡ 48 = digit_zero b e (omega arith) in
        true≢false (sym (ap₂ ◌&&◌ (eq-eqb a 48 p) (eq-eqb b 48 q)) ∙ z)))

module _ (s : Bytes) (h : is_hex s ≡ true) (k : ℕ) where
  zero_pair : 2 * k + 1 < length s → eqb (get_or (bytes_of s) k 0) 0 ≡ is_zero (get_or s (2 * k) 0) (get_or s (2 * k + 1) 0)
  zero_pair l =
      ap (λ (n : ℕ). eqb n 0) (byte_of_pair s h k l)
      ∙ sym (zero_digits (get_or s (2 * k) 0) (get_or s (2 * k + 1) 0) (digit_at s h (2 * k) (omega arith)) (digit_at s h (2 * k + 1) l))

  there : 2 * k + 1 < length s → k < length (bytes_of s)
  there l = omega (arith, length_bytes s h)

  pub zero_next : (ok : Bool) → 2 * k + 1 < length s
      → (ok && passes (lacks 0 (drop k (bytes_of s)))) ≡ ((ok && not (is_zero (get_or s (2 * k) 0) (get_or s (2 * k + 1) 0))) && passes (lacks 0 (drop (k + 1) (bytes_of s))))
  zero_next false l = refl
  zero_next true l =
      ap (λ (c : Bytes). passes (lacks 0 c)) (drop-cons (bytes_of s) k 0 (there l))
      ∙ ap (λ (t : Bool). not t && passes (lacks 0 (drop (suc k) (bytes_of s)))) (zero_pair l)
      ∙ ap (λ (n : ℕ). not (is_zero (get_or s (2 * k) 0) (get_or s (2 * k + 1) 0)) && passes (lacks 0 (drop n (bytes_of s)))) (sym (add-one k))

  pub zero_end : (ok : Bool) → length s / 2 ≤ k → (ok && passes (lacks 0 (drop k (bytes_of s)))) ≡ ok
  zero_end false l = refl
  zero_end true l = rw (drop_of_length-le (bytes_of s) {i = k} (omega (arith, length_bytes s h)))

-- ── zeros that adjoin

few_apart : (b : Bytes) → length b ≤ 1 → zeros_apart b ≡ true
few_apart [] h = refl
few_apart (x ∷ []) h = refl
few_apart (x ∷ y ∷ b) h = absurd (omega arith)

module _ (s : Bytes) (k : ℕ) (ok : Bool) where
  -- one byte more
  pub apart_next : 0 < k → k < length s → (ok && zeros_apart (drop (k - 1) s)) ≡ ((ok && not (is_zero (get_or s (k - 1) 0) (get_or s k 0))) && zeros_apart (drop (k + 1 - 1) s))
  apart_next l h =
      let m : k - 1 + 1 ≡ k = omega arith in
      let n : k + 1 - 1 ≡ k = omega arith in
      let here : drop (k - 1) s ≡ get_or s (k - 1) 0 ∷ drop k s =
      drop-cons s (k - 1) 0 (omega arith) ∙ ap (λ (j : ℕ). get_or s (k - 1) 0 ∷ drop j s) (sym (add-one (k - 1)) ∙ m) in
      let next : drop k s ≡ get_or s k 0 ∷ drop (suc k) s = drop-cons s k 0 h in
      ap (λ (b : Bytes). ok && zeros_apart b) (here ∙ ap (λ (b : Bytes). get_or s (k - 1) 0 ∷ b) next)
      ∙ sym (and_assoc ok (not (is_zero (get_or s (k - 1) 0) (get_or s k 0))) (zeros_apart (get_or s k 0 ∷ drop (suc k) s)))
      ∙ ap (λ (b : Bytes). (ok && not (is_zero (get_or s (k - 1) 0) (get_or s k 0))) && zeros_apart b) (sym next ∙ ap (λ (j : ℕ). drop j s) (sym n))

  pub apart_end : length s ≤ k → (ok && zeros_apart (drop (k - 1) s)) ≡ ok
  apart_end h = ap (λ (t : Bool). ok && t) (few_apart (drop (k - 1) s) (omega (arith, length-drop (k - 1) s))) ∙ and-true ok

apart_at : (s : Bytes) (i : ℕ) → zeros_apart s ≡ true → i + 1 < length s → is_zero (get_or s i 0) (get_or s (i + 1) 0) ≡ false
apart_at [] i z h = absurd (omega arith)
apart_at (x ∷ []) i z h = absurd (omega arith)
apart_at (x ∷ y ∷ s) zero z h = not-true (is_zero x y) (and_left (not (is_zero x y)) (zeros_apart (y ∷ s)) z)
apart_at (x ∷ y ∷ s) (suc i) z h =
    let n : suc (i + 1) ≡ suc i + 1 = omega arith in
    ap (λ (j : ℕ). is_zero (get_or (y ∷ s) i 0) (get_or (x ∷ y ∷ s) j 0)) (sym n) ∙ apart_at (y ∷ s) i (and_right (not (is_zero x y)) (zeros_apart (y ∷ s)) z) (omega arith)

-- where no two zeros adjoin, no pair is 00
pub apart_lacks : (s : Bytes) → is_hex s ≡ true → zeros_apart s ≡ true → true ≡ passes (lacks 0 (bytes_of s))
apart_lacks s h z = sym (go (length s / 2) 0 (omega arith))
  where
    go : (n k : ℕ) → n + k ≡ length s / 2 → passes (lacks 0 (drop k (bytes_of s))) ≡ true
    go zero k e = zero_end s h k true (omega arith)
    go (suc n) k e =
        let l : 2 * k + 1 < length s = omega arith in
        zero_next s h k true l
        ∙ ap (λ (t : Bool). not t && passes (lacks 0 (drop (k + 1) (bytes_of s)))) (apart_at s (2 * k) z l)
        ∙ go n (k + 1) (omega arith)

-- ── C strings

pub no_text : (s : Bytes) → is_text s ≡ false → is_cstring s ≡ false
unfolding is_text is_cstring
no_text s h = pick (read_text s) h
  where
    pick : (a : Answer (Option Bytes)) → gives a ≡ false → lacks_zero_in a ≡ false
    pick (refused r) e = refl
    pick (given t) e = absurd (true≢false e)

pub mark_c_string : (s : Bytes) → length s ≡ 1 → is_text s ≡ true → is_cstring s ≡ true
unfolding is_text is_cstring
mark_c_string [] h e = absurd (omega arith)
mark_c_string (c ∷ []) h e = marked_zero (eqb c 126) (eqb c 45) e
mark_c_string (c ∷ d ∷ s) h e = absurd (omega arith)

pub pairs_c_string : (s : Bytes) → 2 ≤ length s → is_hex s ≡ true → is_cstring s ≡ passes (lacks 0 (bytes_of s))
unfolding is_cstring
pairs_c_string s h e = ap lacks_zero_in (text_pairs s h ∙ ap (λ (a : Answer Bytes). a >>= λ bs. given (Some bs)) (unhex_is s e))

-- ── a mark alone

pub mark_past : (b : ℕ) → is_mark b ≡ true → past_space b ≡ true
mark_past b h = pick (eqb b 126) (eqb b 45) refl refl h
  where
    pick : (t u : Bool) → eqb b 126 ≡ t → eqb b 45 ≡ u → (t || u) ≡ true → past_space b ≡ true
    pick true u e f k = lt-ltb 32 b (omega (arith, eqb-true b 126 e))
    pick false true e f k = lt-ltb 32 b (omega (arith, eqb-true b 45 f))
    pick false false e f k = never k

-- it is a text's column
pub mark_column : (s : Bytes) (a : ℕ) → One is_mark s a 32 → column_of is_text 32 s a ≡ Some (a + 1)
mark_column s a o =
    let p = one_past is_mark mark_past 32 s a o in
    column_is is_text refl (one_column p) (ap is_text (one_part p) ∙ text_one (get_or s a 0 ∷ []) refl ∙ o.holds)
