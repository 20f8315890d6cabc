-- A column's number of a given width. The definitions of `sheets` read numbers of any size and a rule bounds them; here both are one answer.
-- Assumes nothing.
use Rattle.std.specs.Prelude.{ℕ, ◌^◌, ◌<◌, ltb, ℤ}
use Rattle.std.specs.Int.Signed.{mag}
use Rattle.sheets.specs.Refusal.{bad_lines}
use Rattle.sheets.specs.Rule.{is}
use Rattle.sheets.specs.Bytes.{Bytes}
use Rattle.sheets.specs.Answer.{Answer, ◌>>=◌, when}
use Rattle.sheets.specs.Number.{read_number, read_signed}

-- a number below the limit
unfoldable pub column_below : ℕ → Bytes → Answer ℕ
column_below limit t = read_number t >>= λ n. when bad_lines (is (ltb n limit)) n

-- a signed number from -half to half - 1
unfoldable pub signed_column : ℕ → Bytes → Answer ℤ
signed_column half t = read_signed t >>= λ z. when bad_lines (is (ltb (mag z) half)) z

-- the greatest number of a signed width of at most 64 bits
abbrev pub IsGreatest : ℕ → Type 0
IsGreatest max = max < 2 ^ 63
