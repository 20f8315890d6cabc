-- Document 01, 'Schema sheet': "Numbers are decimal without plus, spare zeros or `-0`". It holds for both sheets. Assumes nothing.
use Rattle.std.specs.Prelude.{Bool, true, false, ◌&&◌, not, cond, [], ◌∷◌, ℕ, zero, suc, ◌+◌, ◌*◌, ◌-◌, ◌/◌, ◌%◌, eqb, leb, ltb, ℤ, pos, negsuc}
use Rattle.sheets.specs.Refusal.{bad_lines}
use Rattle.sheets.specs.Bytes.{Bytes, minus_sign, all}
use Rattle.sheets.specs.Rule.{is, ◌and◌}
use Rattle.sheets.specs.Answer.{Answer, refused, given, ◌>>=◌, when}

-- `0` to `9`
abbrev pub is_digit : ℕ → Bool
is_digit b = leb 48 b && leb b 57

-- the digits of n in front of the rest; the first argument bounds how many there are
abbrev pub digits : ℕ → ℕ → Bytes → Bytes
digits zero n rest = rest
digits (suc k) n rest = elim (ltb n 10) [ true ↦ (48 + n) ∷ rest | false ↦ digits k (n / 10) ((48 + n % 10) ∷ rest) ]

-- n in decimal digits
unfoldable pub decimal : ℕ → Bytes
decimal n = digits (suc n) n []

-- the value of digits after others whose value is v
abbrev pub value_from : ℕ → Bytes → ℕ
value_from v [] = v
value_from v (b ∷ bs) = value_from (v * 10 + (b - 48)) bs

-- no spare zero: 0 alone, or a first digit that is no 0
abbrev pub lean : Bytes → Bool
lean [] = false
lean (b ∷ []) = true
lean (b ∷ c ∷ bs) = not (eqb b 48)

-- a column's number
abbrev pub read_number : Bytes → Answer ℕ
read_number t = when bad_lines (is (lean t) and all is_digit t) (value_from 0 t)

-- a signed number, `-` before its digits if it is below 0
abbrev pub write_signed : ℤ → Bytes
write_signed (pos n) = decimal n
write_signed (negsuc n) = minus_sign ∷ decimal (suc n)

-- minus n; there is no `-0`
abbrev pub negative : ℕ → Answer ℤ
negative zero = refused bad_lines
negative (suc n) = given (negsuc n)

-- a column's signed number
abbrev pub read_signed : Bytes → Answer ℤ
read_signed [] = refused bad_lines
read_signed (b ∷ bs) = cond (eqb b minus_sign) (read_number bs >>= negative) (read_number (b ∷ bs) >>= λ n. given (pos n))
