-- The columns of a line that are still to come, from a place of the sheet on: "Values are split by one space", and byte 10 ends a line. Assumes nothing.
use Rattle.std.specs.Prelude.{◌≡◌, ◌∷◌, ◌++◌, ℕ, drop}
use Rattle.sheets.specs.Rule.{Meets}
use Rattle.sheets.specs.Bytes.{Bytes, line_end, space, lacks, split}
use Rattle.sheets.specs.Answer.{given}
use Rattle.sheets.specs.Codec.{ColumnsCodec as Columns}

-- from p on the columns x stand to the end of a line, and then rest
pub record Tail {A : Type 0} (row : Columns A) (s : Bytes) (p : ℕ) (x : A) (rest : Bytes) : Type 0 where
  pub bytes : Bytes
  pub is : drop p s ≡ bytes ++ (line_end ∷ rest)
  pub free : Meets (lacks line_end bytes)
  pub reads : row.reads (split space bytes) ≡ given x
