-- `round_trip` and `same_exports` at fields: the laws used, and each answer that a short sheet can have, by computation. Assumes nothing.
use mathlib.Core.Path.{◌≡◌, refl}
use mathlib.Core.Bool.{true, false}
use mathlib.Core.List.{List, [], ◌∷◌, ◌++◌}
use Prim.Native.Nat.{ℕ}
use lib.ListN.{length, replicate}
use borrow.Author.Tests.{leb-true}
use Rattle.sheets.specs.Bytes.{ascii}
use Rattle.sheets.specs.Number.{decimal}
use Rattle.sheets.specs.Format.{rows}
use Rattle.sheets.specs.Bench.{field_sheet, times}
use Rattle.sheets.specs.Outcome.{imported, exported, plained, outcome}
use Rattle.sheets.specs.RoundTrip.{Buffers, cleared, RoundTrip, all_same, export_refused, import_refused, plain_refused, again_refused, import_differs, round_trip_outcome_in, round_trip_outcome, SameExports, compared, one_export_refused, other_export_refused, one_plain_refused, other_plain_refused, same_exports_outcome, TripRoom}
use Rattle.sheets.proofs.Demand3Example.{field_text, schema_text, plain_text, here}
use Rattle.sheets.proofs.RoundTripLaws.{round_trip}

-- four buffers of these lengths that held sevens
abbrev pub buffers : ℕ → ℕ → ℕ → ℕ → Buffers
buffers a b c d = record { first = replicate a 7; second = replicate b 7; third = replicate c 7; fourth = replicate d 7 }

-- the law at the field of `Demand3Example`
pub here_returns : (round_trip_outcome field_text (buffers 999 999 999 999)).answer ≡ all_same
unfolding rows decimal exported outcome
here_returns =
    let room : TripRoom here (buffers 999 999 999 999) = record {
      first = leb-true (length schema_text) 999 refl;
      second = leb-true (length plain_text) 999 refl;
      third = leb-true (length plain_text) 999 refl;
      fourth = leb-true (length schema_text) 999 refl;
    } in
    λ i. (round_trip false here (buffers 999 999 999 999) room (leb-true (length plain_text) 65535 refl) i).answer

-- one field: the answer to each sheet, with buffers of these lengths
abbrev pub trips : List RoundTrip
trips =
    (round_trip_outcome field_text (buffers 999 999 999 999)).answer
    -- no room, at each step
    ∷ (round_trip_outcome field_text (buffers 9 999 999 999)).answer
    ∷ (round_trip_outcome field_text (buffers 999 9 999 999)).answer
    ∷ (round_trip_outcome field_text (buffers 999 999 9 999)).answer
    ∷ (round_trip_outcome field_text (buffers 999 999 999 9)).answer
    -- no sheet; a broken line; 33 levels; a type without format; ids that are none; a byte 00 in a name
    ∷ (round_trip_outcome [] (buffers 999 999 999 999)).answer
    ∷ (round_trip_outcome (field_sheet (ascii "0 0 0 ~ ~ - 2 ~ 0\n")) (buffers 999 999 999 999)).answer
    ∷ (round_trip_outcome (field_sheet (times 32 (ascii "27 0 0 ~ ~ - 0 ~ 1\n") ++ ascii "0 0 0 ~ ~ - 0 ~ 0\n")) (buffers 999 999 999 999)).answer
    ∷ (round_trip_outcome (field_sheet (ascii "40 0 0 ~ ~ - 0 ~ 0\n")) (buffers 999 999 999 999)).answer
    ∷ (round_trip_outcome (field_sheet (ascii "41 0 0 ~ ~ - 0 ~ 0\n")) (buffers 999 999 999 999)).answer
    ∷ (round_trip_outcome (field_sheet (ascii "0 0 0 ~ ~ 00 0 ~ 0\n")) (buffers 999 999 999 999)).answer
    -- an index of 128 bits; under an extension it comes back
    ∷ (round_trip_outcome (field_sheet (ascii "32 4 0 ~ ~ - 0 ~ 1\n25 0 0 ~ ~ ~ ~ ~ 0\n")) (buffers 999 999 999 999)).answer
    ∷ (round_trip_outcome (field_sheet (ascii "37 0 0 65 ~ - 0 ~ 1\n32 4 0 ~ ~ ~ ~ ~ 1\n25 0 0 ~ ~ ~ ~ ~ 0\n")) (buffers 999 999 999 999)).answer
    -- a reserved key
    ∷ (round_trip_outcome (field_sheet (ascii "0 0 0 ~ ~ - 0 4152524f573a657874656e73696f6e3a6e616d65=65 0\n")) (buffers 999 999 999 999)).answer
    -- big-endian
    ∷ (round_trip_outcome_in true field_text (buffers 999 999 999 999)).answer
    ∷ []

pub trips_right : trips ≡ all_same ∷ export_refused 16 ∷ import_refused 16 ∷ plain_refused 16 ∷ again_refused 16 ∷ export_refused 1 ∷ export_refused 2 ∷ export_refused 3 ∷ export_refused 12 ∷ export_refused 13 ∷ export_refused 14 ∷ import_refused 9 ∷ all_same ∷ import_differs ∷ all_same ∷ []
unfolding rows decimal imported exported plained outcome
trips_right = refl

-- two fields: alike, unlike, and alike in their exports alone, which a reserved key allows
abbrev pub pairs : List SameExports
pairs =
    (same_exports_outcome false field_text plain_text (buffers 999 999 999 999)).answer
    ∷ (same_exports_outcome false field_text (field_sheet (ascii "0 0 0 ~ ~ - 0 ~ 0\n")) (buffers 999 999 999 999)).answer
    ∷ (same_exports_outcome false (field_sheet (ascii "0 0 0 ~ ~ - 0 4152524f573a657874656e73696f6e3a6e616d65=65 0\n")) (field_sheet (ascii "37 0 0 65 ~ - 0 ~ 1\n0 0 0 ~ ~ ~ ~ ~ 0\n")) (buffers 999 999 999 999)).answer
    ∷ (same_exports_outcome false (field_sheet (ascii "40 0 0 ~ ~ - 0 ~ 0\n")) plain_text (buffers 999 999 999 999)).answer
    ∷ (same_exports_outcome false field_text [] (buffers 999 999 999 999)).answer
    ∷ (same_exports_outcome false field_text plain_text (buffers 999 999 9 999)).answer
    ∷ (same_exports_outcome false field_text plain_text (buffers 999 999 999 9)).answer
    ∷ []

pub pairs_right : pairs ≡ compared true true ∷ compared false false ∷ compared true false ∷ one_export_refused 12 ∷ other_export_refused 1 ∷ one_plain_refused 16 ∷ other_plain_refused 16 ∷ []
unfolding rows decimal imported exported plained outcome
pairs_right = refl

-- the last step is refused, and all four buffers are zeros
pub trip_cleared : (round_trip_outcome field_text (buffers 999 999 999 9)).buffers ≡ cleared (buffers 999 999 999 9)
unfolding rows decimal imported exported plained outcome
trip_cleared = refl
