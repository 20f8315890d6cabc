-- The table of document 01, 'Bench cases', row by row. Assumes nothing.
use Rattle.std.specs.Prelude.{◌≡◌, false, [], ℕ, get_or}
use Rattle.sheets.specs.Bytes.{Bytes}
use Rattle.sheets.specs.Outcome.{imported}
use Rattle.sheets.specs.Bench.{Case, cases}

-- the row at a place of the table, from 0; past its end there is none to be run
abbrev pub row_at : ℕ → Case
row_at k = get_or cases k (record { call = imported false; sheet = []; wanted = (1, []) })

-- that row imports this sheet
pub record IsRow (k : ℕ) (sheet : Bytes) : Type 0 where
  pub imports : (row_at k).call ≡ imported false
  pub is : sheet ≡ (row_at k).sheet
