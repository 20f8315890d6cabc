-- The page of small sheets (document 02, #101), each computed from the definitions. Assumes nothing.
use mathlib.Core.Path.{◌≡◌, refl}
use lib.ListN.{replicate}
use Rattle.sheets.specs.Bytes.{Bytes, ascii}
use Rattle.sheets.specs.Number.{decimal}
use Rattle.sheets.specs.Answer.{given}
use Rattle.sheets.specs.KindNames.{kind_rows}
use Rattle.sheets.specs.Bench.{field_sheet}
use Rattle.sheets.specs.Refusal.{no_room, number_of, not_sheet}
use Rattle.sheets.specs.Outcome.{success, refusal, outcome, paged, page_outcome}

-- a Float64 named `a`, not nullable
pub one : paged (field_sheet (ascii "14 0 0 ~ ~ 61 0 ~ 0\n")) ≡ given (ascii "  1 Float64          n 61                                               \n")
unfolding decimal kind_rows paged
one = refl

-- an extension in an extension is one level deeper, and a list's item is one level deeper than the list: levels 1, 2, 2, 3
pub levels : paged (field_sheet (ascii "37 0 0 65 ~ 61 0 ~ 1\n37 0 0 66 ~ ~ ~ ~ 1\n27 0 0 ~ ~ ~ ~ ~ 1\n14 0 0 ~ ~ 62 1 ~ 0\n")) ≡ given (ascii "  1 Extension        n 61                                               \n  2 Extension        .                                                  \n  2 List             .                                                  \n  3 Float64          y 62                                               \n")
unfolding decimal kind_rows paged
levels = refl

-- a dictionary's values are bare, and one level deeper
pub dictionary : paged (field_sheet (ascii "32 2 0 ~ ~ 61 1 ~ 1\n25 0 0 ~ ~ ~ ~ ~ 0\n")) ≡ given (ascii "  1 Dictionary       y 61                                               \n  2 Utf8             .                                                  \n")
unfolding decimal kind_rows paged
dictionary = refl

-- a name of 24 bytes has 48 digits: it is not cut
pub whole : paged (field_sheet (ascii "0 0 0 ~ ~ 616161616161616161616161616161616161616161616161 1 ~ 0\n")) ≡ given (ascii "  1 Null             y 616161616161616161616161616161616161616161616161 \n")
unfolding decimal kind_rows paged
whole = refl

-- one of 25 bytes is
pub cut : paged (field_sheet (ascii "0 0 0 ~ ~ 61616161616161616161616161616161616161616161616161 1 ~ 0\n")) ≡ given (ascii "  1 Null             y 616161616161616161616161616161616161616161616161+\n")
unfolding decimal kind_rows paged
cut = refl

-- the cut is after 24 bytes, even where that parts a character
pub parted : paged (field_sheet (ascii "0 0 0 ~ ~ 6161616161616161616161616161616161616161616161c3a9 1 ~ 0\n")) ≡ given (ascii "  1 Null             y 6161616161616161616161616161616161616161616161c3+\n")
unfolding decimal kind_rows paged
parted = refl

-- an empty name shows 48 spaces; the longest name of a kind
pub empty : paged (field_sheet (ascii "23 4 0 ~ ~ - 0 ~ 0\n")) ≡ given (ascii "  1 FixedSizeBinary  n                                                  \n")
unfolding decimal kind_rows paged
empty = refl

-- one line into 73 bytes, and into 72
abbrev one_sheet : Bytes
one_sheet = field_sheet (ascii "14 0 0 ~ ~ 61 0 ~ 0\n")

pub into_73 : page_outcome one_sheet (replicate 73 7) ≡ success (ascii "  1 Float64          n 61                                               \n") (replicate 73 7)
unfolding decimal kind_rows paged outcome
into_73 = refl

pub into_72 : page_outcome one_sheet (replicate 72 7) ≡ refusal no_room (replicate 72 7)
unfolding decimal kind_rows paged outcome
into_72 = refl

-- what a sheet is refused for comes before 16
pub no_sheet : page_outcome (ascii "kind") (replicate 9 7) ≡ refusal (number_of not_sheet) (replicate 9 7)
unfolding decimal kind_rows paged outcome
no_sheet = refl
