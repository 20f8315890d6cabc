-- Decimal digits as they are read, the first first: one digit more, and all that are left. Assumes nothing.
use Rattle.std.specs.Prelude.{◌&&◌, cond, ℕ, ◌+◌, ◌-◌, ◌*◌, ltb, Option, None, Some}
use Rattle.sheets.specs.Refusal.{Refusal}
use Rattle.sheets.specs.Rule.{is, ◌and◌}
use Rattle.sheets.specs.Bytes.{Bytes, all}
use Rattle.sheets.specs.Answer.{Answer, when}
use Rattle.sheets.specs.Number.{is_digit, value_from}

-- the digit b after others whose value is v, together below the limit
unfoldable pub digit_after : ℕ → ℕ → ℕ → Option ℕ
digit_after limit v b = cond (is_digit b && ltb (v * 10 + (b - 48)) limit) (Some (v * 10 + (b - 48))) None

-- the digits t after others whose value is v, all together below the limit; else the refusal
unfoldable pub digits_below : Refusal → ℕ → ℕ → Bytes → Answer ℕ
digits_below r limit v t = when r (all is_digit t and is (ltb (value_from v t) limit)) (value_from v t)
