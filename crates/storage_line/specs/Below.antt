-- What is left below a line that is no extension's: the types there stand in none, and have one level less. Assumes nothing.
use Rattle.std.specs.Prelude.{◌≡◌, Bool, true, false, List, ℕ, ◌-◌, ◌≤◌, length, drop}
use Rattle.sheets.specs.Bytes.{Bytes}
use Rattle.sheets.specs.FieldSheet.{Entry}
use Rattle.sheets.specs.LineTrees.{Standing}
use Rattle.sheets.specs.FieldTrees.{fields}
use Rattle.read_field_line.specs.declared.FieldLine.{FieldLine}
use Rattle.walks.specs.Places.{RowAt, HasRow}
use Rattle.walks.specs.declared.Subtree.{Subtree}
use Rattle.walks.specs.declared.Subtrees.{Subtrees}

-- types that stand in no extension
abbrev pub row_from : ℕ → ℕ → ℕ → Subtrees
row_from at count levels = record { at = at; count = count; levels = levels; inside = false }

-- the place after the types below the line
abbrev pub EndsBelow : Bytes → FieldLine → ℕ → ℕ → Type 0
EndsBelow s l levels next =
    (us es : List Entry) → RowAt s l.end l.children levels false us es → Standing fields (drop next s) es × (l.end ≤ next) × (next ≤ length s)

-- the types below the line, or none after them
abbrev pub RowLeft : Bytes → Subtree → FieldLine → Bool → Subtrees → Type 0
RowLeft s tree l false r = r ≡ row_from l.end l.children (tree.levels - 1)
RowLeft s tree l true r = (next : ℕ) × (r ≡ row_from next 0 (tree.levels - 1)) × EndsBelow s l (tree.levels - 1) next

-- they stand there, of one level less
abbrev pub HasBelow : Bytes → Subtree → FieldLine → Type 0
HasBelow s tree l = (1 ≤ tree.levels) × HasRow s l.end l.children (tree.levels - 1) false
