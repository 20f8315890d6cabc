-- How long an answer can be, told by the length of the sheet that is handed in, so that a caller knows before the call how long a buffer to lend.
-- A room is a number of bytes; a quotient is rounded down. Assumes nothing.
use Rattle.std.specs.Prelude.{◌≡◌, ◌≢◌, ℕ, ◌*◌, ◌/◌, ◌≤◌, length}
use Rattle.sheets.specs.Bytes.{Bytes}
use Rattle.sheets.specs.Refusal.{no_room}
use Rattle.sheets.specs.Outcome.{Outcome}

-- import of a schema sheet of n bytes: a line of 13 bytes, `4c ~ 0 ~ 0 0`, becomes one of 19, `10 0 0 ~ ~ - 0 ~ 0`, and none becomes more for its length
abbrev pub import_room : ℕ → ℕ
import_room n = n * 19 / 13

-- export of a field sheet of n bytes: two lines of 37 bytes, an extension with the pairs `=` over Int128, become a schema line of 168 and, in a union
-- whose ids are None, an id of at most four digits with its comma, 10 bytes in hexadecimal; no lines become more for their length
abbrev pub export_room : ℕ → ℕ
export_room n = n * 178 / 37

-- plain form of a field sheet of n bytes: only a union's ids that are None add bytes, at most four digits and a comma for each field, whose line has 18
-- or more
abbrev pub plain_room : ℕ → ℕ
plain_room n = n * 23 / 18

-- the page of a field sheet of n bytes: 73 bytes for each line, and a line has 18 or more
abbrev pub page_room : ℕ → ℕ
page_room n = n * 73 / 18

-- underlying_physical_type, to_storage, to_storage_recursive, inner_dtype, get_child of a field sheet of n bytes: no more than was handed in
abbrev pub mapping_room : ℕ → ℕ
mapping_room n = n

-- from_integer_type, from_primitive_type: the heading's 48 bytes, and 21 for the line of Decimal256(32, 32), which is the longest
abbrev pub converted_room : ℕ
converted_room = 69

-- the length that a call answers is at most the room; a refusal has length 0
abbrev pub Fits : ℕ → Outcome → Type 0
Fits room answer = answer.size ≤ room

-- two calls that answer with one number and one length
abbrev pub EquallyLong : Outcome → Outcome → Type 0
EquallyLong a b = (a.number ≡ b.number) × (a.size ≡ b.size)

-- if the room was lent, the call does not say that there is none: "16 the sheet is longer than the buffer"
abbrev pub HasRoom : ℕ → Bytes → Outcome → Type 0
HasRoom room lent answer = room ≤ length lent → answer.number ≢ no_room
