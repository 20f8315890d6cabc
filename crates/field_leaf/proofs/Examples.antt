-- Lines that are short field lines of leaves and lines that are not, computed from the definition. Assumes nothing.
use mathlib.Core.Path.{◌≡◌, refl}
use mathlib.Core.List.{[], ◌∷◌, ◌++◌}
use Rattle.std.specs.Prelude.{None, Some}
use Rattle.sheets.specs.Bytes.{line_end, ascii}
use Rattle.sheets.specs.Kind
use Rattle.columns.specs.Pairs.{pairs_length}
use Rattle.field_leaf.specs.LeafText.{unused_text, tail_text}
use Rattle.field_leaf.specs.FieldLeaves.{field_leaf_in}

-- document 01's A1: Float64, named `item`, not nullable
item : field_leaf_in (ascii "14 0 0 ~ ~ 6974656d 0 ~ 0" ++ (line_end ∷ [])) 0 ≡ Some (Kind.Float64, (11, (19, 0)))
unfolding field_leaf_in unused_text tail_text pairs_length
item = refl

-- a kind of one digit, nullable
nullable : field_leaf_in (ascii "2 0 0 ~ ~ 61 1 ~ 0" ++ (line_end ∷ [])) 0 ≡ Some (Kind.Int8, (10, (12, 1)))
unfolding field_leaf_in unused_text tail_text pairs_length
nullable = refl

-- "without .. spare zeros"
spare_zero : field_leaf_in (ascii "02 0 0 ~ ~ 61 1 ~ 0" ++ (line_end ∷ [])) 0 ≡ None
unfolding field_leaf_in unused_text tail_text pairs_length
spare_zero = refl

-- a kind with a unit, one with a zone, a name that is not ASCII, an empty one, pairs, a child: for the reader of any line
with_unit : field_leaf_in (ascii "20 0 0 ~ ~ 61 1 ~ 0" ++ (line_end ∷ [])) 0 ≡ None
unfolding field_leaf_in unused_text tail_text pairs_length
with_unit = refl

with_zone : field_leaf_in (ascii "15 0 0 ~ ~ 61 1 ~ 0" ++ (line_end ∷ [])) 0 ≡ None
unfolding field_leaf_in unused_text tail_text pairs_length
with_zone = refl

other_name : field_leaf_in (ascii "14 0 0 ~ ~ c3a9 1 ~ 0" ++ (line_end ∷ [])) 0 ≡ None
unfolding field_leaf_in unused_text tail_text pairs_length
other_name = refl

no_bytes : field_leaf_in (ascii "14 0 0 ~ ~ - 1 ~ 0" ++ (line_end ∷ [])) 0 ≡ None
unfolding field_leaf_in unused_text tail_text pairs_length
no_bytes = refl

with_pairs : field_leaf_in (ascii "14 0 0 ~ ~ 61 1 - 0" ++ (line_end ∷ [])) 0 ≡ None
unfolding field_leaf_in unused_text tail_text pairs_length
with_pairs = refl

with_child : field_leaf_in (ascii "14 0 0 ~ ~ 61 1 ~ 1" ++ (line_end ∷ [])) 0 ≡ None
unfolding field_leaf_in unused_text tail_text pairs_length
with_child = refl
