-- Digits as a number below a limit: the part that `read_size` and `read_id` of document 01's definitions
-- have in common. Assumes nothing.
use Rattle.std.specs.Prelude.{ℕ, ltb}
use Rattle.sheets.specs.Refusal.{bad_number}
use Rattle.sheets.specs.Rule.{is}
use Rattle.sheets.specs.Answer.{Answer, ◌>>=◌, when}
use Rattle.sheets.specs.Bytes.{Bytes}
use Rattle.sheets.specs.Format.{unsigned}

-- digits, at least one, as a number below the limit
unfoldable pub number_below : ℕ → Bytes → Answer ℕ
number_below limit bs = unsigned bs >>= λ n. when bad_number (is (ltb n limit)) n
