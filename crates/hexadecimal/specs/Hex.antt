-- Hexadecimal text and the bytes it says: what `unhex` of document 01's definitions gives, as a test and as bytes. Assumes nothing.
use Rattle.std.specs.Prelude.{◌≡◌, Bool, true, false, [], ℕ, ◌+◌, ◌*◌, ◌<◌, length}
use Rattle.sheets.specs.Answer.{Answer, refused, given}
use Rattle.sheets.specs.Bytes.{Bytes}
use Rattle.sheets.specs.Text.{digit_value, unhex}

abbrev pub gives : {A : Type 0} → Answer A → Bool
gives (refused n) = false
gives (given a) = true

abbrev pub given_or : {A : Type 0} → A → Answer A → A
given_or d (refused n) = d
given_or d (given a) = a

-- a lowercase digit
unfoldable pub is_digit : ℕ → Bool
is_digit c = gives (digit_value c)

-- a digit's value
unfoldable pub value_of : ℕ → ℕ
value_of c = given_or 0 (digit_value c)

-- pairs of lowercase digits
unfoldable pub is_hex : Bytes → Bool
is_hex s = gives (unhex s)

-- the bytes of the pairs; none where the text is no pairs of digits
unfoldable pub bytes_of : Bytes → Bytes
bytes_of s = given_or [] (unhex s)

-- the text is pairs of digits, and one of them is pair k
abbrev pub HasPair : Bytes → ℕ → Type 0
HasPair s k = (is_hex s ≡ true) × (2 * k + 1 < length s)
