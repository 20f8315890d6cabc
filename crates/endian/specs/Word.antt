-- The 32-bit numbers of a metadata block, in either order of bytes: document 01, "Our lengths are little-endian (the Rust: native)", and document 02, #104.
-- The order stands in `sheets/specs/Metadata` (`word32`, `value32`) and, for code, here: contracts cite these definitions, and callers use the laws of
-- `WordLaws`. Assumes nothing.
use Rattle.std.specs.Prelude.{◌≡◌, Bool, true, ℕ, ◌+◌, ◌*◌, ◌≤◌, length, take, drop}
use Rattle.sheets.specs.Bytes.{Bytes}
use Rattle.sheets.specs.Metadata.{word32, value32}
use Rattle.hexadecimal.specs.Hex.{is_hex, bytes_of}

-- the number of the bytes
unfoldable pub word_value : Bool → Bytes → ℕ
word_value big bs = value32 big bs

-- the four bytes of a number
unfoldable pub word_bytes : Bool → ℕ → Bytes
word_bytes big n = word32 big n

-- the text is hexadecimal, and four bytes stand from pair k on
abbrev pub HasWord : Bytes → ℕ → Type 0
HasWord s k = (is_hex s ≡ true) × (2 * k + 8 ≤ length s)

-- the same of three bytes
abbrev pub HasThree : Bytes → ℕ → Type 0
HasThree s k = (is_hex s ≡ true) × (2 * k + 6 ≤ length s)

-- the four bytes from pair k on
abbrev pub four_at : Bytes → ℕ → Bytes
four_at s k = take 4 (drop k (bytes_of s))
