-- What looking for a dictionary tells of the types that stand at a place of a sheet: that one of them has one, or where their lines end. Assumes nothing.
use Rattle.std.specs.Prelude.{◌≡◌, Bool, true, false, ◌||◌, List, [], ◌∷◌, ℕ, ◌≤◌, length, drop, Option, None, Some}
use Rattle.sheets.specs.Bytes.{Bytes}
use Rattle.sheets.specs.Field.{Info, ArrowDataType}
use Rattle.sheets.specs.FieldSheet.{Entry}
use Rattle.sheets.specs.LineTrees.{Standing}
use Rattle.sheets.specs.FieldTrees.{fields}
use Rattle.sheets.specs.Mappings.{contains_dictionary}
use Rattle.walks.specs.Places.{TypeAt, RowAt}
use Rattle.walks.specs.declared.Subtree.{Subtree}
use Rattle.walks.specs.declared.Subtrees.{Subtrees}

-- one of the types contains a dictionary
abbrev pub any_contains : List Entry → Bool
any_contains [] = false
any_contains (x ∷ xs) = contains_dictionary x.1 || any_contains xs

-- whether there is one, where what stands from here on has es after it
abbrev pub SearchedAs : Bytes → List Entry → Bool → Option ℕ → Type 0
SearchedAs s es b None = b ≡ true
SearchedAs s es b (Some next) = (b ≡ false) × Standing fields (drop next s) es × (next ≤ length s)

abbrev pub TypeSearched : Bytes → Subtree → Option ℕ → Type 0
TypeSearched s tree o = (i : Option Info) (t : ArrowDataType) (es : List Entry) → TypeAt s tree.at tree.levels tree.inside i t es → SearchedAs s es (contains_dictionary t) o

abbrev pub RowSearched : Bytes → Subtrees → Option ℕ → Type 0
RowSearched s row o = (us es : List Entry) → RowAt s row.at row.count row.levels row.inside us es → SearchedAs s es (any_contains us) o
