-- Formats of leaves, and lines, computed from the definitions. Assumes nothing.
use mathlib.Core.Path.{◌≡◌, refl}
use mathlib.Core.Bool.{true, false}
use mathlib.Core.List.{[], ◌∷◌, ◌++◌}
use Rattle.std.specs.Prelude.{None, Some}
use lib.ListN.{replicate}
use Rattle.sheets.specs.Bytes.{line_end, ascii}
use Rattle.sheets.specs.Format.{rows}
use Rattle.sheets.specs.Kind
use Rattle.columns.specs.Pairs.{pairs_length}
use Rattle.field_leaf.specs.LeafText.{unused_text, tail_text}
use Rattle.field_leaf.specs.FieldLeaves.{field_leaf_in}
use Rattle.put_schema_leaf.specs.Formats.{format_digits}
use Rattle.put_schema_leaf.specs.Written.{schema_tail, schema_text, schema_fits}

-- `g`, `tdD`, `_pli128`
float64 : format_digits Kind.Float64 ≡ Some (ascii "67")
unfolding rows
float64 = refl

date32 : format_digits Kind.Date32 ≡ Some (ascii "746444")
unfolding rows
date32 = refl

int128 : format_digits Kind.Int128 ≡ Some (ascii "5f706c69313238")
unfolding rows
int128 = refl

-- 12 "no format", and a kind with a unit, whose format is for the general way
unknown : format_digits Kind.Unknown ≡ None
unfolding rows
unknown = refl

duration : format_digits Kind.Duration ≡ None
unfolding rows
duration = refl

-- document 01's A1, from the field sheet to the schema sheet
item : schema_text (ascii "67") (ascii "6974656d") 0 ≡ ascii "67 6974656d 0 ~ 0 0" ++ (line_end ∷ [])
unfolding schema_tail
item = refl

nullable : schema_text (ascii "67") (ascii "6974656d") 1 ≡ ascii "67 6974656d 2 ~ 0 0" ++ (line_end ∷ [])
unfolding schema_tail
nullable = refl

-- it needs 20 bytes
room : schema_fits (replicate 20 0) (field_leaf_in (ascii "14 0 0 ~ ~ 6974656d 0 ~ 0" ++ (line_end ∷ [])) 0) ≡ true
unfolding rows field_leaf_in unused_text tail_text pairs_length
room = refl

no_room : schema_fits (replicate 19 0) (field_leaf_in (ascii "14 0 0 ~ ~ 6974656d 0 ~ 0" ++ (line_end ∷ [])) 0) ≡ false
unfolding rows field_leaf_in unused_text tail_text pairs_length
no_room = refl
