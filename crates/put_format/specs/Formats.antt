-- What the writers of a format answer and leave in the buffer. Assumes nothing.
use Rattle.std.specs.Prelude.{◌≡◌, Bool, false, ◌&&◌, ℕ, ◌+◌, ◌<◌, ◌^◌, eqb, leb, length}
use Rattle.sheets.specs.Rule.{Meets}
use Rattle.sheets.specs.Bytes.{Bytes}
use Rattle.sheets.specs.Answer.{Answer, refused, given, ◌>>=◌}
use Rattle.sheets.specs.Text.{hex}
use Rattle.sheets.specs.Field.{leaf_rule}
use Rattle.refusal.specs.Refusals.{Refusing, answer_of}
use Rattle.buffer.specs.Over.{over_at}
use Rattle.format_names.specs.Names.{table_length, row_at}
use Rattle.column_text.specs.ColumnText.{has_zero}

-- the same of a format that is written from a place on
abbrev pub format_placed : Answer Bytes → ℕ → Answer (ℕ × Bool)
format_placed a at = a >>= λ f. given (at + length (hex f), has_zero f)

-- what the buffer then holds: where there is no format, what it held
abbrev pub format_over : Answer Bytes → ℕ → Bytes → Bytes
format_over (refused r) at out = out
format_over (given f) at out = over_at at (hex f) out

-- the format was written in hexadecimal from a place on, or refused
abbrev pub Formats : Answer Bytes → ℕ → Refusing (ℕ × Bool) → Bytes → Bytes → Type 0
Formats a at r old out = (answer_of r ≡ format_placed a at) × (out ≡ format_over a at old)

-- ── what the writers require

pub record CanPutName (name : Bytes) (at : ℕ) : Type 0 where
  pub clean : has_zero name ≡ false
  pub short : length name < 65536
  pub low : at < 2 ^ 62

pub record CanPutRow (i at : ℕ) : Type 0 where
  pub known : i < table_length
  pub low : at < 2 ^ 62

-- the name of row i has two bytes, and there is room for its digits
abbrev pub is_word : ℕ → ℕ → ℕ → Bool
is_word room at i = eqb (length (row_at i).name) 2 && leb (at + 4) room

pub record CanPutLeaf (kind unit at : ℕ) : Type 0 where
  pub rule : Meets (leaf_rule kind unit)
  pub low : at < 2 ^ 62
