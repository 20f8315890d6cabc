-- Document 01, 'Schema sheet': "Texts are lowercase hexadecimal pairs; `-` is empty, `~` is a null pointer". It holds for both sheets, where `~`
-- is none. Assumes nothing.
use Rattle.std.specs.Prelude.{◌&&◌, cond, [], ◌∷◌, ℕ, zero, suc, ◌+◌, ◌*◌, ◌-◌, ◌/◌, ◌%◌, leb, ltb, Option, None, Some}
use Rattle.sheets.specs.Refusal.{bad_lines}
use Rattle.sheets.specs.Bytes.{Bytes, ascii, same}
use Rattle.sheets.specs.Answer.{Answer, refused, given, ◌>>=◌}

-- the digit of a value below 16
abbrev pub hex_digit : ℕ → ℕ
hex_digit d = cond (ltb d 10) (48 + d) (87 + d)

-- two digits for each byte
abbrev pub hex : Bytes → Bytes
hex [] = []
hex (b ∷ bs) = hex_digit (b / 16) ∷ hex_digit (b % 16) ∷ hex bs

-- the value of a digit
abbrev pub digit_value : ℕ → Answer ℕ
digit_value c =
    cond (leb 48 c && leb c 57) (given (c - 48))
    (cond (leb 97 c && leb c 102) (given (c - 87)) (refused bad_lines))

-- the bytes of pairs of digits
abbrev pub unhex : Bytes → Answer Bytes
unhex [] = given []
unhex (x ∷ []) = refused bad_lines
unhex (x ∷ y ∷ r) = digit_value x >>= λ a. digit_value y >>= λ b. unhex r >>= λ bs. given ((16 * a + b) ∷ bs)

-- a text's column
abbrev pub write_text : Option Bytes → Bytes
write_text None = ascii "~"
write_text (Some []) = ascii "-"
write_text (Some (b ∷ bs)) = hex (b ∷ bs)

-- a column's text
abbrev pub read_text : Bytes → Answer (Option Bytes)
read_text [] = refused bad_lines
read_text (c ∷ cs) =
    cond (same (c ∷ cs) (ascii "~")) (given None)
    (cond (same (c ∷ cs) (ascii "-")) (given (Some []))
    (unhex (c ∷ cs) >>= λ bs. given (Some bs)))
