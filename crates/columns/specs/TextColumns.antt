-- What a text's column is. Assumes nothing.
use Rattle.std.specs.Prelude.{◌≡◌, Bool, true, false, ◌&&◌, ◌||◌, not, [], ◌∷◌, ℕ, ◌+◌, eqb, get_or, Option}
use Rattle.sheets.specs.Rule.{passes}
use Rattle.sheets.specs.Bytes.{Bytes, space}
use Rattle.sheets.specs.Answer.{Answer, refused, given}
use Rattle.sheets.specs.Text.{read_text}
use Rattle.sheets.specs.Schema.{lacks_zero}
use Rattle.hexadecimal.specs.Hex.{gives}
use Rattle.columns.specs.Columns.{part, ColumnAt}

-- a text of one byte: `~`, a null pointer, or `-`, an empty text
abbrev pub is_mark : ℕ → Bool
is_mark b = eqb b 126 || eqb b 45

-- the digits of byte 00
abbrev pub is_zero : ℕ → ℕ → Bool
is_zero a b = eqb a 48 && eqb b 48

-- no two zeros adjoin
abbrev pub zeros_apart : Bytes → Bool
zeros_apart [] = true
zeros_apart (a ∷ []) = true
zeros_apart (a ∷ b ∷ bs) = not (is_zero a b) && zeros_apart (b ∷ bs)

-- a text's column
unfoldable pub is_text : Bytes → Bool
is_text c = gives (read_text c)

abbrev pub lacks_zero_in : Answer (Option Bytes) → Bool
lacks_zero_in (refused r) = false
lacks_zero_in (given t) = passes (lacks_zero t)

-- a text's column without byte 00, as the format and the name are C strings
unfoldable pub is_cstring : Bytes → Bool
is_cstring c = lacks_zero_in (read_text c)

-- ── texts that are known to stand

-- the column from a on is a text, and a space ends it
abbrev pub HasText : Bytes → ℕ → Type 0
HasText s a = (e : ℕ) × ColumnAt s a e space × (is_text (part s a e) ≡ true)

-- it is more than one byte, and so pairs of digits
abbrev pub HasPairs : Bytes → ℕ → Type 0
HasPairs s a = HasText s a × (get_or s (a + 1) 0 ≡ space → ⊥)
