-- The mark and the name of a line of the page, by what a reader of lines tells, and the pieces that a line is written in. Assumes nothing.
use Rattle.std.specs.Prelude.{Bool, cond, [], ◌∷◌, ◌++◌, ℕ, ◌-◌, ltb, replicate, None, Some}
use Rattle.sheets.specs.Bytes.{Bytes, line_end, space}
use Rattle.sheets.specs.Number.{decimal}
use Rattle.sheets.specs.KindNames.{kind_name}
use Rattle.sheets.specs.Page.{nullable_mark, level_width, kind_width, right_in, left_in, name_column, cut_mark}
use Rattle.columns.specs.Columns.{part_of}
use Rattle.columns.specs.declared.Part.{Part}

-- the mark of a line that is bare, or of one that is nullable or not
abbrev pub mark_of : Bool → Bool → ℕ
mark_of bare nullable = cond bare (nullable_mark None) (nullable_mark (Some (record { name = []; nullable = nullable; pairs = None })))

-- the digits of a name: none of a column of one byte, which is `-` or `~`
abbrev pub shown_part : Part → Part
shown_part name = cond (ltb (name.end - name.start) 2) (part_of name.end name.end) name

-- the level's column and its space
abbrev pub level_text : ℕ → Bytes
level_text level = right_in level_width (decimal level) ++ (space ∷ [])

-- these four bytes, the kind's name and the mark of nullable, each with the space after it
unfoldable pub front_text : Bytes → ℕ → ℕ → Bytes
front_text level kind mark = (level ++ left_in kind_width (kind_name kind)) ++ (space ∷ mark ∷ space ∷ [])

-- spaces in the place of a name and of its mark, and the line's end
unfoldable pub blank_name : Bytes
blank_name = replicate 49 space ++ (line_end ∷ [])

-- the name's column, the mark of a cut name, and the line's end
unfoldable pub name_text : Bytes → Bytes
name_text digits = name_column digits ++ (cut_mark digits ∷ line_end ∷ [])
