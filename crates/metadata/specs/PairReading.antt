-- Texts and pairs of a metadata block, read in place: how many bytes they have, or why they are refused. Assumes nothing.
use Rattle.std.specs.Prelude.{◌≡◌, Bool, true, ℕ, ◌+◌, ◌*◌, ◌≤◌, ◌<◌, length, drop}
use Rattle.sheets.specs.Bytes.{Bytes}
use Rattle.sheets.specs.Answer.{Answer, given, ◌>>=◌}
use Rattle.sheets.specs.Metadata.{take_text}
use Rattle.hexadecimal.specs.Hex.{is_hex, bytes_of}

-- hexadecimal text, no longer than a sheet's column can be
pub record Block (m : Bytes) : Type 0 where
  pub is_text : is_hex m ≡ true
  pub short : length m < 65536

-- a place in the block, and the text is one
pub record BlockPlace (m : Bytes) (k : ℕ) : Type 0 where
  pub block : Block m
  pub within : 2 * k ≤ length m

-- the bytes of the text whose length stands at byte k
abbrev pub text_size : Bool → Bytes → ℕ → Answer ℕ
text_size big b k = take_text big (drop k b) >>= λ (t, rest). given (length t)

-- a key whose length stands at byte k, and the value after it: the bytes of the key, and the byte after the value
abbrev pub pair_places : Bool → Bytes → ℕ → Answer (ℕ × ℕ)
pair_places big b k = do
  key ← text_size big b k
  value ← text_size big b (k + 4 + key)
  given (key, k + 4 + key + 4 + value)

-- a key of n bytes at byte k of the block
abbrev pub KeyIn : Bool → Bytes → ℕ → ℕ → Type 0
KeyIn big m k n = Block m × (text_size big (bytes_of m) k ≡ given n)
