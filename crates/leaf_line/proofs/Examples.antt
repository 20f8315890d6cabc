-- Lines that are short lines and lines that are not, computed from the definition. Assumes nothing.
use mathlib.Core.Path.{◌≡◌, refl}
use mathlib.Core.List.{[], ◌∷◌, ◌++◌}
use Rattle.std.specs.Prelude.{None, Some}
use Rattle.sheets.specs.Bytes.{line_end, ascii}
use Rattle.sheets.specs.Kind
use Rattle.columns.specs.Pairs.{pairs_length}
use Rattle.format_names.specs.ShortNames.{short_rows}
use Rattle.leaf_line.specs.Leaf.{leaf_in}
use Rattle.leaf_line.specs.Nested.{named_rows, nested_in}

-- document 01's A1: `g`, named `item`, without flags
item : leaf_in (ascii "67 6974656d 0 ~ 0 0" ++ (line_end ∷ [])) 0 ≡ Some (Kind.Float64, (11, (0, 0)))
unfolding leaf_in short_rows pairs_length
item = refl

-- `B` is no name
no_name : leaf_in (ascii "42 6974656d 0 ~ 0 0" ++ (line_end ∷ [])) 0 ≡ None
unfolding leaf_in short_rows pairs_length
no_name = refl

-- a name that is not ASCII, an empty one, metadata, a child: for the reader of any line
other_name : leaf_in (ascii "67 c3a9 0 ~ 0 0" ++ (line_end ∷ [])) 0 ≡ None
unfolding leaf_in short_rows pairs_length
other_name = refl

no_bytes : leaf_in (ascii "67 - 0 ~ 0 0" ++ (line_end ∷ [])) 0 ≡ None
unfolding leaf_in short_rows pairs_length
no_bytes = refl

with_metadata_lem : leaf_in (ascii "67 6974656d 0 - 0 0" ++ (line_end ∷ [])) 0 ≡ None
unfolding leaf_in short_rows pairs_length
with_metadata_lem = refl

with_child : leaf_in (ascii "67 6974656d 0 ~ 1 0" ++ (line_end ∷ [])) 0 ≡ None
unfolding leaf_in short_rows pairs_length
with_child = refl

-- a list of one child, a struct of nine
one_child_lem : nested_in (ascii "2b6c 6974656d 2 ~ 1 0" ++ (line_end ∷ [])) 0 ≡ Some (Kind.List, (13, (2, 1)))
unfolding nested_in named_rows pairs_length
one_child_lem = refl

nine_children : nested_in (ascii "2b73 6974656d 0 ~ 9 0" ++ (line_end ∷ [])) 0 ≡ Some (Kind.Struct, (13, (0, 9)))
unfolding nested_in named_rows pairs_length
nine_children = refl

-- no child, ten children, a map, a dictionary: for the reader of any line
no_child_lem : nested_in (ascii "2b73 6974656d 0 ~ 0 0" ++ (line_end ∷ [])) 0 ≡ None
unfolding nested_in named_rows pairs_length
no_child_lem = refl

ten_children : nested_in (ascii "2b73 6974656d 0 ~ 10 0" ++ (line_end ∷ [])) 0 ≡ None
unfolding nested_in named_rows pairs_length
ten_children = refl

a_map : nested_in (ascii "2b6d 6974656d 0 ~ 1 0" ++ (line_end ∷ [])) 0 ≡ None
unfolding nested_in named_rows pairs_length
a_map = refl

with_dictionary : nested_in (ascii "2b6c 6974656d 0 ~ 1 1" ++ (line_end ∷ [])) 0 ≡ None
unfolding nested_in named_rows pairs_length
with_dictionary = refl
