-- The words for a byte order of metadata (document 02, #104). Assumes nothing.
use Rattle.std.specs.Prelude.{Bool, true, false, cond, ◌++◌, [], Option, Some, None}
use Rattle.sheets.specs.Bytes.{Bytes, ascii, same}

-- `little` is no, `big` is yes, every other word is no order
abbrev pub order_named : Bytes → Option Bool
order_named word = cond (same word (ascii "little")) (Some false) (cond (same word (ascii "big")) (Some true) None)

-- what is said of arguments that ask nothing, by the program's name; nothing of others
abbrev pub usage_line : Option Bool → Bytes → Bytes
usage_line (Some big) program = []
usage_line None program = ascii "usage: " ++ (program ++ ascii " [little|big]\n")
