-- Document 02, #103, 'Look at the first byte first': the fixed names of formats, all in one table, and those of one length and first byte. Assumes nothing.
use Rattle.std.specs.Prelude.{Bool, true, false, ◌&&◌, ◌||◌, cond, List, [], ◌∷◌, ◌++◌, ℕ, ◌+◌, eqb, length}
use Rattle.sheets.specs.Rule.{Rule, is}
use Rattle.sheets.specs.Bytes.{Bytes, ascii, same}
use Rattle.sheets.specs.Field.{leaf, list, large_list, map, struct}
use Rattle.sheets.specs.Format.{FormatRow, rows, nesting_format, Format, of_scalar, of_nesting, of_grouping}
use Rattle.sheets.specs.Kind

-- ── the table

-- the fixed names of types with children, as `to_format` writes them; a map's keys may be sorted or not
unfoldable pub nested_rows : List FormatRow
nested_rows =
    record { name = nesting_format list; kind = Kind.List; unit = 0 }
    ∷ record { name = nesting_format large_list; kind = Kind.LargeList; unit = 0 }
    ∷ record { name = nesting_format (map false); kind = Kind.Map; unit = 0 }
    ∷ record { name = ascii "+s"; kind = Kind.Struct; unit = 0 }
    ∷ []

-- "the fixed names are theirs": the 38 texts that `to_dtype` matches before it looks for a colon
unfoldable pub fixed_rows : List FormatRow
unfolding rows nested_rows
fixed_rows = rows ++ nested_rows

-- a type with children that has a fixed name
abbrev pub is_nested : ℕ → Bool
is_nested k = eqb k Kind.List || (eqb k Kind.LargeList || (eqb k Kind.Map || eqb k Kind.Struct))

-- what the name of a row says: a type with children, whose map has sorted keys or not, or the type of its kind and unit
abbrev pub named_format : Bool → ℕ → ℕ → Format
named_format sorted k u =
    cond (eqb k Kind.List) (of_nesting list)
    (cond (eqb k Kind.LargeList) (of_nesting large_list)
    (cond (eqb k Kind.Map) (of_nesting (map sorted)) (cond (eqb k Kind.Struct) (of_grouping struct) (of_scalar (leaf k u)))))

-- ── "the fixed ones of that length and first byte"

-- both have a first byte, and it is the same
abbrev pub starts_alike : Bytes → Bytes → Bool
starts_alike [] name = false
starts_alike (b ∷ f) [] = false
starts_alike (b ∷ f) (c ∷ name) = eqb b c

-- whether a name has n bytes and the first byte of f
abbrev pub in_cell : ℕ → Bytes → Bytes → Bool
in_cell n f name = eqb (length name) n && starts_alike f name

abbrev pub cell_of : ℕ → Bytes → List FormatRow → List FormatRow
cell_of n f [] = []
cell_of n f (r ∷ rs) = cond (in_cell n f r.name) (r ∷ cell_of n f rs) (cell_of n f rs)

-- the fixed names of n bytes with the first byte of f: none where f has no byte
abbrev pub chosen : ℕ → Bytes → List FormatRow
chosen n f = cell_of n f fixed_rows

-- those that a format is compared with
abbrev pub compared_with : Bytes → List FormatRow
compared_with f = chosen (length f) f

-- whether a row's name has n bytes
abbrev pub has_length : ℕ → FormatRow → Rule
has_length n r = is (eqb (length r.name) n)

-- ── "exactly .., each once, and none for an empty format"

-- how often a name stands among rows
abbrev pub times : Bytes → List FormatRow → ℕ
times name [] = 0
times name (r ∷ rs) = cond (same name r.name) (1 + times name rs) (times name rs)

abbrev pub is_fixed : Bytes → List FormatRow → Bool
is_fixed name [] = false
is_fixed name (r ∷ rs) = same name r.name || is_fixed name rs

-- once, if it is a fixed name of the length and first byte of f, and else not at all
abbrev pub once_if_alike : Bytes → Bytes → ℕ
once_if_alike f name = cond (is_fixed name fixed_rows && in_cell (length f) f name) 1 0
