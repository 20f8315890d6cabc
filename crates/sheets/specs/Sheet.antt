-- Document 01: what the two sheets share. "A sheet is the heading, compared byte for byte, then one line per node, the heading and every line
-- ended by byte 10." Assumes nothing.
use Rattle.std.specs.Prelude.{Bool, true, false, List, [], ◌∷◌, ◌++◌, ℕ, leb, length, Option, None, Some}
use Rattle.sheets.specs.Refusal.{not_sheet, bad_lines}
use Rattle.sheets.specs.Bytes.{Bytes, line_end, split, after}
use Rattle.sheets.specs.Rule.{is}
use Rattle.sheets.specs.Answer.{Answer, refused, given, ◌>>=◌, when, found}

-- "Sheets handed in have at most 65,535 bytes"
abbrev pub sheet_limit : ℕ
sheet_limit = 65535

-- "Both trees are counted by levels, at most 32"
abbrev pub level_limit : ℕ
level_limit = 32

-- each line ended by byte 10
abbrev pub ended : List Bytes → Bytes
ended [] = []
ended (l ∷ ls) = l ++ (line_end ∷ ended ls)

-- the lines of the parts between bytes 10: the last part, after the last byte 10, is empty
abbrev pub ended_lines : List Bytes → Answer (List Bytes)
ended_lines [] = refused bad_lines
ended_lines ([] ∷ []) = given []
ended_lines ((b ∷ p) ∷ []) = refused bad_lines
ended_lines (p ∷ q ∷ ps) = ended_lines (q ∷ ps) >>= λ ls. given (p ∷ ls)

-- the heading and the lines
abbrev pub write_sheet : Bytes → List Bytes → Bytes
write_sheet heading ls = heading ++ (line_end ∷ ended ls)

abbrev pub is_some : {A : Type 0} → Option A → Bool
is_some None = false
is_some (Some a) = true

-- "the heading, compared byte for byte", and its byte 10
abbrev pub heading_line : Bytes → Bytes
heading_line heading = heading ++ (line_end ∷ [])

unfoldable pub is_headed : Bytes → Bytes → Bool
is_headed heading s = is_some (after (heading_line heading) s)

-- the lines of a sheet; 1 "over 65,535 bytes, wrong heading or no byte 10 after it"
abbrev pub read_sheet : Bytes → Bytes → Answer (List Bytes)
read_sheet heading b = do
  _ ← when not_sheet (is (leb (length b) sheet_limit)) b
  body ← found not_sheet (after (heading_line heading) b)
  ended_lines (split line_end body)

-- the one tree of a sheet: else "lines are missing or left over"
abbrev pub single : {A : Type 0} → List A → Answer A
single [] = refused bad_lines
single (t ∷ []) = given t
single (t ∷ u ∷ us) = refused bad_lines
