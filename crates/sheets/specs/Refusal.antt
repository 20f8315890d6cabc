-- Document 01, 'Who is turned back', and document 02, "The numbers of demand 1 run on with those that this and the later requests name": why a sheet is
-- refused, and the number of each reason. Assumes nothing.
use Rattle.std.specs.Prelude.{Bool, false, ◌||◌, List, [], ◌∷◌, ℕ, eqb}

pub data Refusal : Type 0 where
  -- the sheet's maker: over 65,535 bytes, wrong heading or no byte 10 after it
  not_sheet : Refusal
  -- a line breaks its rules, or lines are missing or left over
  bad_lines : Refusal
  -- over 32 levels
  too_deep : Refusal
  -- the schema's producer: null format
  null_format : Refusal
  -- format, name or metadata text not UTF-8
  not_utf8 : Refusal
  -- unsupported format
  unsupported_format : Refusal
  -- bad number in a format
  bad_number : Refusal
  -- decimal not 2 or 3 parts
  bad_decimal : Refusal
  -- dictionary index format outside `c C s S i I l L`
  bad_index : Refusal
  -- needed child absent
  no_child : Refusal
  -- metadata cut short or a negative length
  bad_metadata : Refusal
  -- the field's owner: no format (Time32 in micro- or nanoseconds, Time64 in seconds or milliseconds, MonthDayMillis, Unknown)
  no_format : Refusal
  -- union whose `text` is `-`, or `~` over no fields
  no_union_ids : Refusal
  -- byte 00 in a line's `name` or timezone
  zero_byte : Refusal
  -- mapping undefined there, no such child, or no such place to convert
  undefined_mapping : Refusal
  -- document 02, #106, strict export, the field's owner: a reserved key
  reserved_key : Refusal
  -- a 128-bit dictionary index
  wide_index : Refusal

-- the numbers from 1 on; 16 is the caller's
abbrev pub number_of : Refusal → ℕ
number_of not_sheet = 1
number_of bad_lines = 2
number_of too_deep = 3
number_of null_format = 4
number_of not_utf8 = 5
number_of unsupported_format = 6
number_of bad_number = 7
number_of bad_decimal = 8
number_of bad_index = 9
number_of no_child = 10
number_of bad_metadata = 11
number_of no_format = 12
number_of no_union_ids = 13
number_of zero_byte = 14
number_of undefined_mapping = 15
number_of reserved_key = 17
number_of wide_index = 18

-- the caller: 16 the sheet is longer than the buffer. It is no reason of a sheet's, so it is no case of `Refusal`; it is tried last, though it is not the
-- greatest number
abbrev pub no_room : ℕ
no_room = 16

-- the greatest number of all
abbrev pub last_number : ℕ
last_number = 18

-- whether a number is one of these
abbrev pub one_of : List ℕ → ℕ → Bool
one_of [] n = false
one_of (m ∷ ms) n = eqb n m || one_of ms n
