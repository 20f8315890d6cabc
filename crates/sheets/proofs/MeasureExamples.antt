-- Small sheets measured (document 02, #105), one table for import and one for export, by computation from the definitions: other readings of which lines
-- count differ at a row. And one sheet imported into the least buffer, and into one byte fewer. Assumes nothing.
use mathlib.Core.Path.{◌≡◌, refl}
use mathlib.Core.Bool.{false}
use mathlib.Core.List.{List, [], ◌∷◌, map}
use Prim.Native.Nat.{ℕ}
use lib.ListN.{replicate}
use Rattle.sheets.specs.Bytes.{Bytes, ascii}
use Rattle.sheets.specs.Visits.{import_lines, export_lines}
use Rattle.sheets.specs.Outcome.{imported, exported, outcome, success, refusal, import_outcome, Measure, measure_import_outcome, measure_export_outcome}
use Rattle.sheets.specs.Bench.{schema_sheet, field_sheet}
use Rattle.sheets.specs.Refusal.{no_room}

-- the lines of a sheet, and what its measure is to be
abbrev Row : Type 0
Row = Bytes × Measure

-- length and lines; or a refusal
abbrev counts : Bytes → ℕ → ℕ → Row
counts ls size lines = (ls, record { number = 0; size = size; lines = lines })

abbrev refuses : Bytes → ℕ → Row
refuses ls number = (ls, record { number = number; size = 0; lines = 0 })

-- each row is what the call answers
abbrev Holds : (Bytes → Measure) → List Row → Type 0
Holds call rows = map (λ (r : Row). call r.0) rows ≡ map (λ (r : Row). r.1) rows

abbrev import_rows : List Row
import_rows =
    counts (ascii "6e - 0 ~ 0 0\n") 66 1
    -- a leaf's child is no line visited: its format need not be one
    ∷ counts (ascii "6e - 0 ~ 1 0\n78 - 0 ~ 0 0\n") 66 1
    -- a list's second child
    ∷ counts (ascii "2b6c - 0 ~ 2 0\n6e - 0 ~ 0 0\n78 - 0 ~ 0 0\n") 85 2
    -- the child of a line with a dictionary, and the values, which are visited
    ∷ counts (ascii "69 - 0 ~ 1 1\n78 - 0 ~ 0 0\n6e - 0 ~ 0 0\n") 85 2
    -- an extension writes two lines, and one is visited
    ∷ counts (ascii "6e - 0 01000000140000004152524f573a657874656e73696f6e3a6e616d650100000078 0 0\n") 86 1
    -- a list's first child is visited: both counts are 0
    ∷ refuses (ascii "2b6c - 0 ~ 1 0\n78 - 0 ~ 0 0\n") 6
    ∷ []

pub import_rows_lem : Holds (λ ls. measure_import_outcome false (schema_sheet ls)) import_rows
unfolding imported import_lines
import_rows_lem = refl

abbrev export_rows : List Row
export_rows =
    -- "on export an extension's inner line counts"
    counts (ascii "37 0 0 78 ~ - 0 ~ 1\n0 0 0 ~ ~ ~ ~ ~ 0\n") 125 2
    -- a dictionary's values
    ∷ counts (ascii "32 2 0 ~ ~ - 0 ~ 1\n0 0 0 ~ ~ ~ ~ ~ 0\n") 73 2
    -- "the values of a dictionary directly under an extension do not", nor under two; there kind 40, which has no format, is no refusal
    ∷ counts (ascii "37 0 0 78 ~ - 0 ~ 1\n32 2 0 ~ ~ ~ ~ ~ 1\n0 0 0 ~ ~ ~ ~ ~ 0\n") 125 2
    ∷ counts (ascii "37 0 0 78 ~ - 0 ~ 1\n37 0 0 79 ~ ~ ~ ~ 1\n32 2 0 ~ ~ ~ ~ ~ 1\n40 0 0 ~ ~ ~ ~ ~ 0\n") 125 3
    -- the values of a dictionary in no extension, which are an extension over a dictionary
    ∷ counts (ascii "32 2 0 ~ ~ - 0 ~ 1\n37 0 0 78 ~ ~ ~ ~ 1\n32 2 0 ~ ~ ~ ~ ~ 1\n0 0 0 ~ ~ ~ ~ ~ 0\n") 138 3
    ∷ []

pub export_rows_lem : Holds (λ ls. measure_export_outcome false (field_sheet ls)) export_rows
unfolding exported export_lines
export_rows_lem = refl

-- the first sheet into the 66 bytes that its measure says, and into 65
pub into_66 : import_outcome (schema_sheet (ascii "6e - 0 ~ 0 0\n")) (replicate 66 7) ≡ success (field_sheet (ascii "0 0 0 ~ ~ - 0 ~ 0\n")) (replicate 66 7)
unfolding imported outcome
into_66 = refl

pub into_65 : import_outcome (schema_sheet (ascii "6e - 0 ~ 0 0\n")) (replicate 65 7) ≡ refusal no_room (replicate 65 7)
unfolding imported outcome
into_65 = refl
