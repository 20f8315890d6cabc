-- ASCII: at a place, and in hexadecimal text by the first digit of each byte. Assumes nothing.
use mathlib.Core.Path.{◌≡◌, refl}
use mathlib.Core.Bool.{Bool, true, false, ◌&&◌}
use Prim.Native.Nat.{ℕ, ◌+◌, ◌*◌, ◌≤◌, ◌<◌}
use native.Mathlib.Numerals.{add-one}
use native.Mathlib.Omega.{arith}
use lib.Dec.{leb}
use lib.ListN.{length, get_or, drop, drop_of_length-le}
use lib.Seq.{drop-cons}
use borrow.Author.Tests.{le-leb, lt-leb, leb-true, leb-false}
use Rattle.sheets.specs.Bytes.{Bytes, all}
use Rattle.sheets.specs.Utf8.{is_utf8}
use Rattle.sheets.proofs.Tests.{meets}
use Rattle.sheets.proofs.Utf8Laws.{ascii_utf8}
use Rattle.hexadecimal.specs.Hex.{is_digit, value_of, is_hex, bytes_of}
use Rattle.hexadecimal.proofs.DigitLaws.{low, letter, high, to_9, to_f, value_below}
use Rattle.hexadecimal.proofs.HexLaws.{digit_at, byte_of_pair}
use Rattle.utf8.specs.Tables.{is_ascii, all_ascii}

pub ascii_is_utf8 : (s : Bytes) → all_ascii s ≡ true → is_utf8 s ≡ true
unfolding all_ascii
ascii_is_utf8 s h = ascii_utf8 s (meets (all is_ascii s) h)

pub ascii_next : (t : Bool) (s : Bytes) (i : ℕ) → i < length s → (t && all_ascii (drop i s)) ≡ ((t && leb (get_or s i 0) 127) && all_ascii (drop (i + 1) s))
unfolding all_ascii
ascii_next true s i h = rw (drop-cons s i 0 h, add-one)
ascii_next false s i h = refl

pub ascii_end : (t : Bool) (s : Bytes) (i : ℕ) → length s ≤ i → (t && all_ascii (drop i s)) ≡ t
unfolding all_ascii
ascii_end true s i h = rw (drop_of_length-le s h)
ascii_end false s i h = refl

-- a digit is at most `7` exactly if its value is below 8
small : (c : ℕ) → is_digit c ≡ true → c ≤ 55 → value_of c < 8
small c d h = omega (arith, (to_9 c (low c d) (omega arith)).1)

large : (c : ℕ) → is_digit c ≡ true → 55 < c → 8 ≤ value_of c
large c d h = pick (leb c 57) refl
  where
    pick : (t : Bool) → leb c 57 ≡ t → 8 ≤ value_of c
    pick true e = omega (arith, (to_9 c (low c d) (leb-true c 57 e)).1)
    pick false e = let l = letter c d (leb-false c 57 e) in omega (arith, (to_f c l (high c d)).1)

pub first_digit_ascii : (s : Bytes) → is_hex s ≡ true → (k : ℕ) → 2 * k + 1 < length s → leb (get_or (bytes_of s) k 0) 127 ≡ leb (get_or s (2 * k) 0) 55
first_digit_ascii s h k l = pick (leb (get_or s (2 * k) 0) 55) refl
  where
    first : is_digit (get_or s (2 * k) 0) ≡ true
    first = digit_at s h (2 * k) (omega arith)

    second : is_digit (get_or s (2 * k + 1) 0) ≡ true
    second = digit_at s h (2 * k + 1) l

    pick : (t : Bool) → leb (get_or s (2 * k) 0) 55 ≡ t → leb (get_or (bytes_of s) k 0) 127 ≡ t
    pick true e =
        le-leb (get_or (bytes_of s) k 0) 127
        (omega (arith, byte_of_pair s h k l, small (get_or s (2 * k) 0) first (leb-true (get_or s (2 * k) 0) 55 e), value_below (get_or s (2 * k + 1) 0) second))
    pick false e =
        lt-leb (get_or (bytes_of s) k 0) 127
        (omega (arith, byte_of_pair s h k l, large (get_or s (2 * k) 0) first (leb-false (get_or s (2 * k) 0) 55 e)))
