-- The parts of a format after its colon, between commas, and the ids of a union. Assumes nothing.
use Rattle.std.specs.Prelude.{◌≡◌, true, List, ℕ, ◌-◌, ◌≤◌, ℤ, length, take, drop}
use Rattle.sheets.specs.Bytes.{Bytes, comma, split}
use Rattle.sheets.specs.Answer.{Answer, read_each}
use Rattle.sheets.specs.Format.{read_id}
use Rattle.hexadecimal.specs.Hex.{is_hex, bytes_of}

-- pairs of digits that say k bytes or more
abbrev pub HasBytes : Bytes → ℕ → Type 0
HasBytes f k = (is_hex f ≡ true) × (k ≤ length (bytes_of f))

abbrev pub HasPart : Bytes → ℕ → ℕ → Type 0
HasPart f from to = (is_hex f ≡ true) × (from ≤ to) × (to ≤ length (bytes_of f))

-- the bytes from `from` on and before `to`
abbrev pub format_part : ℕ → ℕ → Bytes → Bytes
format_part from to b = take (to - from) (drop from b)

-- t is the text of that part
abbrev pub IsPartText : Bytes → ℕ → ℕ → Bytes → Type 0
IsPartText f from to t = (is_hex t ≡ true) × (bytes_of t ≡ format_part from to (bytes_of f))

-- the ids between the commas
abbrev pub read_ids : Bytes → Answer (List ℤ)
read_ids b = read_each read_id (split comma b)
