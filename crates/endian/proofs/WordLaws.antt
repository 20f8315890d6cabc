-- Laws of the 32-bit numbers of a metadata block, in either order: that they are the definition's (`value_word`, `bytes_word`), and their bytes one by one.
-- Assumes nothing.
use mathlib.Core.Path.{◌≡◌, refl, sym, ap, ap₂, ◌∙◌}
use mathlib.Core.Bool.{Bool, true, false}
use mathlib.Core.List.{[], ◌∷◌, ◌++◌}
use Prim.Native.Nat.{ℕ, suc, ◌+◌, ◌*◌, ◌/◌, ◌%◌, ◌≤◌, ◌<◌}
use native.Mathlib.Omega.{arith}
use lib.ListN.{length, get_or, take, drop}
use lib.Seq.{drop-cons, drop-drop, take-add}
use borrow.Author.Tests.{lt-ltb}
use Rattle.sheets.specs.Bytes.{Bytes}
use Rattle.sheets.specs.Text.{hex_digit, hex}
use Rattle.sheets.specs.Metadata.{little_value, in_order, word32, value32}
use Rattle.sheets.proofs.MetadataLaws.{word_length}
use Rattle.hexadecimal.specs.Hex.{bytes_of}
use Rattle.hexadecimal.proofs.HexLaws.{twice_length}
use Rattle.hexadecimal.proofs.PartLaws.{length_hex, bytes_hex, bytes_part}
use Rattle.words.specs.Words.{WordAt, WordOf, low_bytes}
use Rattle.words.proofs.WordLaws.{word_is, low_is}
use Rattle.endian.specs.Word.{word_value, word_bytes, HasWord, HasThree, four_at}

pub value_word : (big : Bool) (bs : Bytes) → word_value big bs ≡ value32 big bs
unfolding word_value
value_word big bs = refl

pub bytes_word : (big : Bool) (n : ℕ) → word_bytes big n ≡ word32 big n
unfolding word_bytes
bytes_word big n = refl

pub length_word_text : (big : Bool) (n : ℕ) → length (hex (word_bytes big n)) ≡ 8
unfolding word_bytes
length_word_text big n = length_hex (word32 big n) ∙ ap (λ (k : ℕ). 2 * k) (word_length big n)

-- ── the bytes one by one

four : (l : Bytes) (k : ℕ) → k + 4 ≤ length l → take 4 (drop k l) ≡ get_or l k 0 ∷ get_or l (k + 1) 0 ∷ get_or l (k + 2) 0 ∷ get_or l (k + 3) 0 ∷ []
four l k h =
    let one : k + 1 ≡ suc k = omega arith in
    let two : k + 2 ≡ suc (suc k) = omega arith in
    let three : k + 3 ≡ suc (suc (suc k)) = omega arith in
    rw (
      one,
      two,
      three,
      drop-cons l k 0 (omega arith),
      drop-cons l (suc k) 0 (omega arith),
      drop-cons l (suc (suc k)) 0 (omega arith),
      drop-cons l (suc (suc (suc k))) 0 (omega arith),
    )

-- the number of the four bytes from pair k on, which are these
pub word_four : (big : Bool) (s : Bytes) (k : ℕ) → HasWord s k
    → word_value big (four_at s k) ≡ value32 big (get_or (bytes_of s) k 0 ∷ get_or (bytes_of s) (k + 1) 0 ∷ get_or (bytes_of s) (k + 2) 0 ∷ get_or (bytes_of s) (k + 3) 0 ∷ [])
unfolding word_value
word_four big s k h = ap (value32 big) (four (bytes_of s) k (omega (arith, twice_length s h.0)))

pub four_sum : (a b c d : ℕ) → little_value (a ∷ b ∷ c ∷ d ∷ []) ≡ a + 256 * (b + 256 * (c + 256 * d))
four_sum a b c d = omega arith

-- the four bytes of a number, in their order
pub bytes_one_by_one : (big : Bool) (n : ℕ) → word_bytes big n ≡ in_order big (n % 256 ∷ n / 256 % 256 ∷ n / 65536 % 256 ∷ n / 16777216 % 256 ∷ [])
unfolding word_bytes
bytes_one_by_one big n =
    let p : n / 256 / 256 ≡ n / 65536 = omega arith in
    let q : n / 256 / 256 / 256 ≡ n / 16777216 = omega arith in
    ap (in_order big) (ap₂ (λ (x y : ℕ). n % 256 ∷ n / 256 % 256 ∷ x % 256 ∷ y % 256 ∷ []) p q)

-- ── a number below 256

small_bytes : (big : Bool) (n : ℕ) → n < 256 → word_bytes big n ≡ in_order big (n ∷ 0 ∷ 0 ∷ 0 ∷ [])
small_bytes big n h =
    let a : n % 256 ≡ n = omega arith in
    let b : n / 256 % 256 ≡ 0 = omega arith in
    let c : n / 65536 % 256 ≡ 0 = omega arith in
    let d : n / 16777216 % 256 ≡ 0 = omega arith in
    bytes_one_by_one big n ∙ ap (in_order big) (rw (a, b, c, d))

-- three bytes whose text is the word of six digits `0`
pub three_there : (s : Bytes) (k w v : ℕ) → HasThree s k → WordAt 6 s (2 * k) w → WordOf (hex (0 ∷ 0 ∷ 0 ∷ [])) v → w ≡ v → take 3 (drop k (bytes_of s)) ≡ 0 ∷ 0 ∷ 0 ∷ []
three_there s k w v h a b e =
    sym (bytes_part s h.0 k 3)
    ∙ ap bytes_of (word_is a h.1 (hex (0 ∷ 0 ∷ 0 ∷ [])) refl b.1 (sym b.0 ∙ sym e))
    ∙ bytes_hex (0 ∷ 0 ∷ 0 ∷ []) (refl, (refl, (refl, refl)))

-- the number of four bytes of which three are 0 is the fourth
module _ (s : Bytes) (k : ℕ) (h : HasWord s k) where
  one : (i : ℕ) → i < k + 4 → take 1 (drop i (bytes_of s)) ≡ get_or (bytes_of s) i 0 ∷ []
  one i l = ap (take 1) (drop-cons (bytes_of s) i 0 (omega (arith, twice_length s h.0, h.1)))

  pub last_alone : take 3 (drop k (bytes_of s)) ≡ 0 ∷ 0 ∷ 0 ∷ [] → word_value true (four_at s k) ≡ get_or (bytes_of s) (k + 3) 0
  unfolding word_value
  last_alone e =
      ap (value32 true) (take-add 3 1 (drop k (bytes_of s)) ∙ ap₂ ◌++◌ e (ap (take 1) (drop-drop 3 k (bytes_of s)) ∙ one (k + 3) (omega arith)))
      ∙ omega arith

  pub first_alone : take 3 (drop (k + 1) (bytes_of s)) ≡ 0 ∷ 0 ∷ 0 ∷ [] → word_value false (four_at s k) ≡ get_or (bytes_of s) k 0
  unfolding word_value
  first_alone e =
      ap (value32 false) (take-add 1 3 (drop k (bytes_of s)) ∙ ap₂ ◌++◌ (one k (omega arith)) (ap (take 3) (drop-drop 1 k (bytes_of s)) ∙ e))
      ∙ omega arith

-- its text is the word of its two digits, with six zeros before or after them
module _ (n a b w : ℕ) (h : n < 256) (e : a ≡ hex_digit (n / 16)) (f : b ≡ hex_digit (n % 16)) (la : a < 256) (lb : b < 256) where
  pub small_big : w ≡ 0x303030303030 + a * 0x1000000000000 + b * 0x100000000000000 → low_bytes 8 w ≡ hex (word_bytes true n)
  small_big g =
      low_is (48 ∷ 48 ∷ 48 ∷ 48 ∷ 48 ∷ 48 ∷ a ∷ b ∷ []) w (refl, (refl, (refl, (refl, (refl, (refl, (lt-ltb a 256 la, (lt-ltb b 256 lb, refl)))))))) (omega arith)
      ∙ ap₂ (λ (x y : ℕ). 48 ∷ 48 ∷ 48 ∷ 48 ∷ 48 ∷ 48 ∷ x ∷ y ∷ []) e f
      ∙ ap hex (sym (small_bytes true n h))

  pub small_little : w ≡ 0x3030303030300000 + a + b * 256 → low_bytes 8 w ≡ hex (word_bytes false n)
  small_little g =
      low_is (a ∷ b ∷ 48 ∷ 48 ∷ 48 ∷ 48 ∷ 48 ∷ 48 ∷ []) w (lt-ltb a 256 la, (lt-ltb b 256 lb, (refl, (refl, (refl, (refl, (refl, (refl, refl)))))))) (omega arith)
      ∙ ap₂ (λ (x y : ℕ). x ∷ y ∷ 48 ∷ 48 ∷ 48 ∷ 48 ∷ 48 ∷ 48 ∷ []) e f
      ∙ ap hex (sym (small_bytes false n h))
