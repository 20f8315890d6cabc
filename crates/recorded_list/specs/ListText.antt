-- The recorded list as text, as differential/ANSWERS.md, 'Format', has it: bytes, lines of numbers, the first line, a record. Assumes nothing.
use Rattle.std.specs.Prelude.{Bool, ◌&&◌, ◌||◌, not, cond, List, [], ◌∷◌, ◌++◌, ℕ, eqb, leb}
use Rattle.sheets.specs.Bytes.{Bytes, line_end, space}
use Rattle.sheets.specs.Text.{hex}
use Rattle.sheets.specs.Number.{decimal}
use Rattle.recorded_list.specs.declared.records.FirstLine.{FirstLine}
use Rattle.recorded_list.specs.declared.records.Header.{Header}

-- ── bytes

abbrev pub backslash : ℕ
backslash = 92

-- "itself if it is 10 or from 32 to 126 and is no backslash"
abbrev pub is_plain : ℕ → Bool
is_plain b = eqb b line_end || (leb 32 b && (leb b 126 && not (eqb b backslash)))

-- "Any other byte is a backslash and two lowercase hexadecimal digits."
unfoldable pub byte_text : ℕ → Bytes
byte_text b = cond (is_plain b) (b ∷ []) (backslash ∷ hex (b ∷ []))

unfoldable pub bytes_text : Bytes → Bytes
unfolding byte_text
bytes_text [] = []
bytes_text (b ∷ bs) = byte_text b ++ bytes_text bs

-- "bytes, then one byte 10"
unfoldable pub part_text : Bytes → Bytes
unfolding bytes_text
part_text x = bytes_text x ++ (line_end ∷ [])

-- ── lines of numbers

-- what stands before the numbers that are still to come
abbrev pub stop_before : List ℕ → ℕ
stop_before [] = line_end
stop_before (n ∷ ns) = space

-- "numbers split by one space"; "Byte 10 ends each line"
unfoldable pub numbers_text : List ℕ → Bytes
unfolding decimal
numbers_text [] = []
numbers_text (n ∷ ns) = decimal n ++ (stop_before ns ∷ numbers_text ns)

-- "`records longest_input longest_output`"
abbrev pub first_numbers : FirstLine → List ℕ
first_numbers l = l.records ∷ l.input ∷ l.output ∷ []

abbrev pub first_line_text : FirstLine → Bytes
first_line_text l = numbers_text (first_numbers l)

-- "`call argument room number first second input output`"
abbrev pub header_numbers : Header → List ℕ
header_numbers h = h.call ∷ h.argument ∷ h.room ∷ h.number ∷ h.first ∷ h.second ∷ h.input ∷ h.output ∷ []

abbrev pub header_text : Header → Bytes
header_text h = numbers_text (header_numbers h)

-- ── records

-- a header, the bytes of the sheet handed in, and those within the length of the answer
pub record Record : Type 0 where
  pub header : Header
  pub input : Bytes
  pub output : Bytes

-- "each of three parts"
unfoldable pub record_text : Record → Bytes
unfolding numbers_text part_text
record_text r = header_text r.header ++ (part_text r.input ++ part_text r.output)
