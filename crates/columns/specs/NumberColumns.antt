-- The numbers in columns: what the column from a place on says, and where it ends. Assumes nothing.
use Rattle.std.specs.Prelude.{◌≡◌, true, ℕ, ◌^◌, ◌<◌, ℤ, Option, Some, None}
use Rattle.sheets.specs.Refusal.{bad_lines}
use Rattle.sheets.specs.Bytes.{Bytes}
use Rattle.sheets.specs.Answer.{Answer, refused, given, ◌>>=◌, found}
use Rattle.sheets.specs.Number.{read_number}
use Rattle.decimal.specs.Column.{column_below, signed_column}
use Rattle.columns.specs.Columns.{part, is_stop, stop_from, column_end, ColumnAt}
use Rattle.columns.specs.declared.number.NumberTo.{NumberTo}

-- the number of 64 bits in the column from a on that the byte stop ends, and the column's end
unfoldable pub number_in : ℕ → Bytes → ℕ → Answer (ℕ × ℕ)
number_in stop s a = do
  e ← found bad_lines (column_end stop s a)
  n ← column_below (2 ^ 64) (part s a e)
  given (n, e)

-- the same of a signed number
unfoldable pub signed_in : ℕ → Bytes → ℕ → Answer (ℤ × ℕ)
signed_in stop s a = do
  e ← found bad_lines (column_end stop s a)
  z ← signed_column (2 ^ 63) (part s a e)
  given (z, e)

-- ── numbers that are known to stand

-- the column from a on is a number of 64 bits
abbrev pub HasNumber : Bytes → ℕ → Type 0
HasNumber s a = (e : ℕ) × (stop : ℕ) × ColumnAt s a e stop × (is_stop stop ≡ true) × (n : ℕ) × (read_number (part s a e) ≡ given n) × (n < 2 ^ 64)

-- this is the number, and there its column ends
abbrev pub NumberStands : Bytes → ℕ → NumberTo → Type 0
NumberStands s a r = (r.end ≡ stop_from s a) × (read_number (part s a r.end) ≡ given r.value)
