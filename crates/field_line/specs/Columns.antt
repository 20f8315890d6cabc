-- The columns of a field line, each with the byte after it, and the three pieces that a line is written in: what it says of its type, what it says
-- of its field, and its number of children with the line's end. Assumes nothing.
use Rattle.std.specs.Prelude.{[], ◌∷◌, ◌++◌, ℕ}
use Rattle.sheets.specs.Bytes.{Bytes, line_end, space, equals}
use Rattle.sheets.specs.Number.{decimal}
use Rattle.sheets.specs.FieldSheet.{Columns}

-- a column and the space after it
unfoldable pub column : Bytes → Bytes
column c = c ++ (space ∷ [])

-- kind p q
unfoldable pub kind_piece : ℕ → ℕ → ℕ → Bytes
kind_piece kind p q = (column (decimal kind) ++ column (decimal p)) ++ column (decimal q)

-- kind p q text more
unfoldable pub shape_piece : ℕ → ℕ → ℕ → Bytes → Bytes → Bytes
shape_piece kind p q text more = (((column (decimal kind) ++ column (decimal p)) ++ column (decimal q)) ++ column text) ++ column more

-- the same of a line's columns
abbrev pub columns_piece : Columns → Bytes
columns_piece c = shape_piece c.kind c.p c.q c.text c.more

-- name nullable pairs
unfoldable pub own_piece : Bytes → Bytes → Bytes → Bytes
own_piece name nullable pairs = (column name ++ column nullable) ++ column pairs

-- children and the line's end
unfoldable pub end_piece : ℕ → Bytes
end_piece children = decimal children ++ (line_end ∷ [])

-- a key's text and a value's text
unfoldable pub pair_piece : Bytes → Bytes → Bytes
pair_piece key value = key ++ (equals ∷ value)
