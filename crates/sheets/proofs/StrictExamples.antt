-- Small fields exported strictly (document 02, #106), in tables, by computation from the definitions: other readings of which lines are tested, in which order,
-- and for what, differ at a row. And a field that was exported strictly, in each order of the metadata, the request used at it, and `round_trip`, which answers
-- 17 or 18 where with the present export import refuses or gives another field. Assumes nothing.
use mathlib.Core.Path.{◌≡◌, refl}
use mathlib.Core.Bool.{Bool, true, false}
use mathlib.Core.List.{List, [], ◌∷◌, ◌++◌}
use Prim.Native.Nat.{ℕ}
use lib.ListN.{length, replicate}
use borrow.Author.Tests.{leb-true}
use Rattle.sheets.specs.Bytes.{Bytes, ascii}
use Rattle.sheets.specs.Text.{hex}
use Rattle.sheets.specs.Metadata.{name_key, metadata_key}
use Rattle.sheets.specs.Refusal.{reserved_key, number_of}
use Rattle.sheets.specs.Outcome.{imported, exported, strict_exported, plained, outcome, success, refusal, import_outcome_in, strict_export_outcome, plain_outcome}
use Rattle.sheets.specs.RoundTrip.{RoundTrip, all_same, export_refused, strict_round_trip_outcome}
use Rattle.sheets.specs.StrictReturn.{StrictlyExported}
use Rattle.sheets.specs.Number.{decimal}
use Rattle.sheets.specs.Format.{rows}
use Rattle.sheets.specs.Bench.{Case, Right, schema_sheet, field_sheet, exports, times}
use Rattle.sheets.proofs.Demand3Example.{field_text, schema_text, big_schema_text, plain_text, full}
use Rattle.sheets.proofs.RoundTripExample.{buffers}
use Rattle.sheets.proofs.StrictReturn.{strict_return}

-- the two reserved keys as they stand in a sheet
abbrev name_hex : Bytes
name_hex = hex name_key

abbrev metadata_hex : Bytes
metadata_hex = hex metadata_key

abbrev strictly : Bool → Bytes → Bytes → Case
strictly big a b = record { call = strict_exported big; sheet = field_sheet a; wanted = (0, schema_sheet b) }

abbrev refuses : Bytes → ℕ → Case
refuses a n = record { call = strict_exported false; sheet = field_sheet a; wanted = (n, []) }

-- a Null without name that has these pairs
abbrev null_with : Bytes → Bytes
null_with pairs = ascii "0 0 0 ~ ~ - 0 " ++ pairs ++ ascii " 0\n"

abbrev under : Bytes
under = ascii "37 0 0 78 ~ - 0 ~ 1\n32 2 0 ~ ~ ~ ~ ~ 1\n27 0 0 ~ ~ ~ ~ ~ 1\n" ++ null_with (name_hex ++ ascii "=")

abbrev pub key_rows : List Case
key_rows =
    -- either key
    refuses (null_with (name_hex ++ ascii "=")) 17
    ∷ refuses (null_with (metadata_hex ++ ascii "=")) 17
    -- after another key
    ∷ refuses (null_with (ascii "41=," ++ name_hex ++ ascii "=")) 17
    -- keys are compared whole: one byte more, one fewer, small letters
    ∷ strictly false (null_with (name_hex ++ ascii "73=")) (ascii "6e - 0 0100000015000000" ++ name_hex ++ ascii "7300000000 0 0\n")
    ∷ strictly false (null_with (ascii "4152524f573a657874656e73696f6e3a6e616d=")) (ascii "6e - 0 01000000130000004152524f573a657874656e73696f6e3a6e616d00000000 0 0\n")
    ∷ strictly false (null_with (ascii "6172726f773a657874656e73696f6e3a6e616d65=")) (ascii "6e - 0 01000000140000006172726f773a657874656e73696f6e3a6e616d6500000000 0 0\n")
    -- big-endian
    ∷ strictly true (null_with (name_hex ++ ascii "73=")) (ascii "6e - 0 0000000100000015" ++ name_hex ++ ascii "7300000000 0 0\n")
    -- a key as a value is none
    ∷ strictly false (null_with (ascii "41=" ++ name_hex)) (ascii "6e - 0 01000000010000004114000000" ++ name_hex ++ ascii " 0 0\n")
    -- an extension that would overwrite the pair with an equal one
    ∷ refuses (ascii "37 0 0 78 ~ - 0 " ++ name_hex ++ ascii "=78 1\n0 0 0 ~ ~ ~ ~ ~ 0\n") 17
    -- a line that export never visits, under a dictionary directly under an extension; the present export exports it
    ∷ refuses under 17
    ∷ exports under (ascii "69 - 0 0100000014000000" ++ name_hex ++ ascii "0100000078 0 0\n")
    ∷ []

abbrev pub index_rows : List Case
index_rows =
    refuses (ascii "32 4 0 ~ ~ - 0 ~ 1\n0 0 0 ~ ~ ~ ~ ~ 0\n") 18
    ∷ refuses (ascii "32 9 0 ~ ~ - 0 ~ 1\n0 0 0 ~ ~ ~ ~ ~ 0\n") 18
    -- directly under an extension, though that would come back
    ∷ refuses (ascii "37 0 0 78 ~ - 0 ~ 1\n32 4 0 ~ ~ ~ ~ ~ 1\n0 0 0 ~ ~ ~ ~ ~ 0\n") 18
    -- in the values of a dictionary, also where export never visits them
    ∷ refuses (ascii "32 2 0 ~ ~ - 0 ~ 1\n32 4 0 ~ ~ ~ ~ ~ 1\n0 0 0 ~ ~ ~ ~ ~ 0\n") 18
    ∷ refuses (ascii "37 0 0 78 ~ - 0 ~ 1\n32 2 0 ~ ~ ~ ~ ~ 1\n32 4 0 ~ ~ ~ ~ ~ 1\n0 0 0 ~ ~ ~ ~ ~ 0\n") 18
    -- the types Int128 and UInt128 are no cause, nor as a dictionary's values
    ∷ strictly false (ascii "6 0 0 ~ ~ - 0 ~ 0\n") (ascii "5f706c69313238 - 0 ~ 0 0\n")
    ∷ strictly false (ascii "11 0 0 ~ ~ - 0 ~ 0\n") (ascii "5f706c75313238 - 0 ~ 0 0\n")
    ∷ strictly false (ascii "32 8 0 ~ ~ - 0 ~ 1\n6 0 0 ~ ~ ~ ~ ~ 0\n") (ascii "4c - 0 ~ 0 1\n5f706c69313238 - 2 ~ 0 0\n")
    ∷ []

abbrev pub order_rows : List Case
order_rows =
    -- "the key first when a line has both"
    refuses (ascii "32 4 0 ~ ~ - 0 " ++ name_hex ++ ascii "= 1\n0 0 0 ~ ~ ~ ~ ~ 0\n") 17
    -- "lines in order": an index on the second line, a key on the fourth; and the other way round
    ∷ refuses (ascii "30 0 0 ~ ~ - 0 ~ 2\n32 4 0 ~ ~ - 0 ~ 1\n0 0 0 ~ ~ ~ ~ ~ 0\n" ++ null_with (name_hex ++ ascii "=")) 18
    ∷ refuses (ascii "30 0 0 ~ ~ - 0 ~ 2\n" ++ null_with (name_hex ++ ascii "=") ++ ascii "32 4 0 ~ ~ - 0 ~ 1\n0 0 0 ~ ~ ~ ~ ~ 0\n") 17
    -- "before any other test": a byte 00 in the first line's name, a type without format on the second, ids that are none
    ∷ refuses (ascii "30 0 0 ~ ~ 00 0 ~ 2\n40 0 0 ~ ~ - 0 ~ 0\n" ++ null_with (metadata_hex ++ ascii "=")) 17
    ∷ refuses (ascii "30 0 0 ~ ~ - 0 ~ 2\n41 0 0 - ~ - 0 ~ 0\n32 4 0 ~ ~ - 0 ~ 1\n0 0 0 ~ ~ ~ ~ ~ 0\n") 18
    -- "after the sheet's form": no sheet, lines missing, 33 levels
    ∷ record { call = strict_exported false; sheet = null_with (name_hex ++ ascii "="); wanted = (1, []) }
    ∷ refuses (ascii "30 0 0 ~ ~ - 0 ~ 2\n" ++ null_with (name_hex ++ ascii "=")) 2
    ∷ refuses (times 32 (ascii "27 0 0 ~ ~ - 0 ~ 1\n") ++ null_with (name_hex ++ ascii "=")) 3
    -- where neither is found the present export's numbers come
    ∷ refuses (ascii "30 0 0 ~ ~ 00 0 ~ 1\n40 0 0 ~ ~ - 0 ~ 0\n") 12
    ∷ refuses (ascii "41 0 0 - ~ - 0 ~ 0\n") 13
    ∷ refuses (ascii "0 0 0 ~ ~ 00 0 ~ 0\n") 14
    ∷ []

pub key_rows_lem : Right key_rows
unfolding exported strict_exported
key_rows_lem = refl

pub index_rows_lem : Right index_rows
unfolding exported strict_exported
index_rows_lem = refl

pub order_rows_lem : Right order_rows
unfolding exported strict_exported
order_rows_lem = refl

-- 17 comes before 16: into no buffer, and into one of nine sevens, which is left with zeros
pub into_none : strict_export_outcome false (field_sheet (null_with (name_hex ++ ascii "="))) [] ≡ refusal (number_of reserved_key) []
unfolding strict_exported outcome
into_none = refl

pub into_nine : strict_export_outcome false (field_sheet (null_with (name_hex ++ ascii "="))) (replicate 9 7) ≡ refusal 17 (replicate 9 7)
unfolding strict_exported outcome
into_nine = refl

-- an answer, and one byte too few for it
pub into_60 : strict_export_outcome false (field_sheet (ascii "0 0 0 ~ ~ - 0 ~ 0\n")) (replicate 60 7) ≡ success (schema_sheet (ascii "6e - 0 ~ 0 0\n")) (replicate 60 7)
unfolding strict_exported outcome
into_60 = refl

pub into_59 : strict_export_outcome false (field_sheet (ascii "0 0 0 ~ ~ - 0 ~ 0\n")) (replicate 59 7) ≡ refusal 16 (replicate 59 7)
unfolding strict_exported outcome
into_59 = refl

-- ── a field that was exported strictly

abbrev pub here : StrictlyExported false
unfolding rows decimal strict_exported outcome
here = record { sheet = field_text; buffer = full; answers_zero = refl; short_export = leb-true (length schema_text) 65535 refl }

abbrev pub here_big : StrictlyExported true
unfolding rows decimal strict_exported outcome
here_big = record { sheet = field_text; buffer = full; answers_zero = refl; short_export = leb-true (length big_schema_text) 65535 refl }

-- the request at it
pub comes_back : import_outcome_in false schema_text full ≡ plain_outcome field_text full
unfolding rows decimal strict_exported outcome
comes_back = (strict_return false).imports_back here full

pub comes_back_big : import_outcome_in true big_schema_text full ≡ plain_outcome field_text full
unfolding rows decimal strict_exported outcome
comes_back_big = (strict_return true).imports_back here_big full

pub goes_again : strict_export_outcome false plain_text full ≡ strict_export_outcome false field_text full
unfolding rows decimal strict_exported plained outcome
goes_again = (strict_return false).exports_again here plain_text refl (leb-true (length plain_text) 65535 refl) full

-- `round_trip`, in each order of the metadata; then an index of 128 bits, the same under an extension, and a reserved key
abbrev pub trips : List RoundTrip
trips =
    (strict_round_trip_outcome false field_text (buffers 999 999 999 999)).answer
    ∷ (strict_round_trip_outcome true field_text (buffers 999 999 999 999)).answer
    ∷ (strict_round_trip_outcome false (field_sheet (ascii "32 4 0 ~ ~ - 0 ~ 1\n25 0 0 ~ ~ ~ ~ ~ 0\n")) (buffers 999 999 999 999)).answer
    ∷ (strict_round_trip_outcome false (field_sheet (ascii "37 0 0 65 ~ - 0 ~ 1\n32 4 0 ~ ~ ~ ~ ~ 1\n25 0 0 ~ ~ ~ ~ ~ 0\n")) (buffers 999 999 999 999)).answer
    ∷ (strict_round_trip_outcome false (field_sheet (null_with (name_hex ++ ascii "=65"))) (buffers 999 999 999 999)).answer
    ∷ []

pub trips_right : trips ≡ all_same ∷ all_same ∷ export_refused 18 ∷ export_refused 18 ∷ export_refused 17 ∷ []
unfolding rows decimal imported strict_exported plained outcome
trips_right = refl
