-- The names that a format is compared with, as the code chooses them (document 02, #103). Assumes nothing.
use Rattle.std.specs.Prelude.{◌≡◌, true, false, List, [], ◌∷◌, ℕ, ◌+◌, ◌≤◌}
use Rattle.sheets.specs.Bytes.{Bytes}
use Rattle.sheets.specs.Format.{FormatRow}
use Rattle.sheets.specs.FixedNames.{is_nested, chosen}
use Rattle.format_names.specs.Names.{table_length, rows_from, is_longer}
use Rattle.format_names.specs.declared.candidates.Candidates.{Candidates}
use Rattle.format_names.specs.declared.candidates.Candidates.TheVariants as C

-- the rows of the table that an answer stands for, for formats with this first byte, or with none where two digits say none; one candidate is that byte, by itself the
-- name of the type of this kind
abbrev pub candidate_rows : Bytes → Candidates → List FormatRow
candidate_rows first C.Nothing = []
candidate_rows first (C.One kind) = record { name = first; kind = kind; unit = 0 } ∷ []
candidate_rows first (C.Rows row count) = rows_from row count

-- no name of one byte is of a type with children; rows are rows of the table, and their names have bytes after the first
abbrev pub Placed : ℕ → Candidates → Type 0
Placed n C.Nothing = Unit {0}
Placed n (C.One kind) = is_nested kind ≡ false
Placed n (C.Rows row count) = (is_longer n ≡ true) × (row + count ≤ table_length)

-- #103 "choose by length and first byte which fixed names are compared at all": they are the fixed names of n bytes with this first byte
pub record AreCandidates (n : ℕ) (first : Bytes) (r : Candidates) : Type 0 where
  pub chosen : candidate_rows first r ≡ chosen n first
  pub placed : Placed n r
