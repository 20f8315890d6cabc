-- How long the text of a record can be: a number of 64 bits has at most 20 digits, and a byte at most three bytes of text. Assumes nothing.
use mathlib.Core.Path.{◌≡◌, refl, ap}
use mathlib.Core.Bool.{Bool, true, false}
use mathlib.Core.List.{List, [], ◌∷◌, ◌++◌}
use Prim.Native.Nat.{ℕ, ◌+◌, ◌*◌, ◌^◌, ◌≤◌}
use native.Mathlib.Omega.{arith}
use lib.ListN.{length, length-append}
use borrow.Author.Tests.{ltb-true}
use Rattle.sheets.specs.Rule.{Meets}
use Rattle.sheets.specs.Bytes.{Bytes, all, line_end}
use Rattle.sheets.specs.Number.{decimal}
use Rattle.decimal.proofs.WriteLaws.{decimal_short}
use Rattle.recorded_list.specs.ListText.{Record, is_plain, byte_text, bytes_text, part_text, stop_before, numbers_text, header_text, header_numbers, record_text}
use Rattle.recorded_list.specs.Reads.{is_word, IsRecord}
use Rattle.recorded_list.specs.Moving.{longest_part, longest_record}
use Rattle.recorded_list.proofs.TextLaws.{plain_text_lem, other_text}

byte_short : (b : ℕ) → length (byte_text b) ≤ 3
byte_short b = pick (is_plain b) refl
  where
    pick : (t : Bool) → is_plain b ≡ t → length (byte_text b) ≤ 3
    pick true h = omega (arith, ap length (plain_text_lem b h))
    pick false h = omega (arith, ap length (other_text b h))

bytes_short : (x : Bytes) → length (bytes_text x) ≤ 3 * length x
unfolding bytes_text
bytes_short [] = omega arith
bytes_short (b ∷ x) = omega (arith, length-append (byte_text b) (bytes_text x), byte_short b, bytes_short x)

part_short : (x : Bytes) → length (part_text x) ≤ 3 * length x + 1
unfolding part_text
part_short x = omega (arith, length-append (bytes_text x) (line_end ∷ []), bytes_short x)

numbers_short : (ns : List ℕ) → Meets (all is_word ns) → length (numbers_text ns) ≤ (20 + 1) * length ns
unfolding numbers_text
numbers_short [] h = omega arith
numbers_short (n ∷ ns) h = omega (arith, length-append (decimal n) (stop_before ns ∷ numbers_text ns), decimal_short n (ltb-true n (2 ^ 64) h.0), numbers_short ns h.1)

pub record_short : (r : Record) → IsRecord longest_part longest_part r → length (record_text r) ≤ longest_record
unfolding record_text
record_short r h =
    let input_long = h.input.long in
    let input_fits = h.input.fits in
    let output_long = h.output.long in
    let output_fits = h.output.fits in
    omega (arith, length-append (header_text r.header) (part_text r.input ++ part_text r.output), length-append (part_text r.input) (part_text r.output), numbers_short (header_numbers r.header) h.header, part_short r.input, part_short r.output)
