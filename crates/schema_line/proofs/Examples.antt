-- Lines of document 01's bench cases and lines that break a rule, computed from the definition. Assumes nothing.
use mathlib.Core.Path.{◌≡◌, refl}
use mathlib.Core.List.{[], ◌∷◌, ◌++◌}
use lib.IntN.{pos, negsuc}
use Rattle.sheets.specs.Refusal.{bad_lines}
use Rattle.sheets.specs.Bytes.{line_end, ascii}
use Rattle.sheets.specs.Answer.{refused, given}
use Rattle.sheets.specs.Number.{decimal}
use Rattle.columns.specs.Columns.{part_of}
use Rattle.schema_line.specs.Lines.{shown_at, read_line}

-- A1
peak : read_line (ascii "2b6c 7065616b 2 ~ 1 0" ++ (line_end ∷ [])) 0
    ≡ given (record { format = part_of 0 4; name = part_of 5 13; flags = pos 2; metadata = part_of 16 17; children = 1; dictionary = 0; end = 22 })
unfolding read_line shown_at decimal
peak = refl

-- A2
minus_three : read_line (ascii "67 - -3 ~ 0 0" ++ (line_end ∷ [])) 0
    ≡ given (record { format = part_of 0 2; name = part_of 3 4; flags = negsuc 2; metadata = part_of 8 9; children = 0; dictionary = 0; end = 14 })
unfolding read_line shown_at decimal
minus_three = refl

two_dictionaries : read_line (ascii "67 - 0 ~ 0 2" ++ (line_end ∷ [])) 0 ≡ refused bad_lines
unfolding read_line
two_dictionaries = refl

zero_byte_lem : read_line (ascii "6700 - 0 ~ 0 0" ++ (line_end ∷ [])) 0 ≡ refused bad_lines
unfolding read_line
zero_byte_lem = refl

five_columns : read_line (ascii "67 - 0 ~ 0" ++ (line_end ∷ [])) 0 ≡ refused bad_lines
unfolding read_line
five_columns = refl

no_end : read_line (ascii "67 - 0 ~ 0 0") 0 ≡ refused bad_lines
unfolding read_line
no_end = refl
