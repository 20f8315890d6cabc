-- What the programs print of an answer that is a sheet. Assumes nothing.
use Rattle.std.specs.Prelude.{ℕ, Result, [], ◌∷◌, ◌++◌, cond, eqb, take}
use Rattle.std.specs.Fmt.{decimal}
use Rattle.sheets.specs.Bytes.{Bytes, ascii}
use Rattle.outcome.specs.declared.Refused.{Refused}
use Rattle.outcome.specs.Answers.{number_told, length_told}

-- `refused N` and the line's end
unfoldable pub refused_line : ℕ → Bytes
refused_line n = ascii "refused " ++ (decimal n ++ 10 ∷ [])

-- of a number and a length: the sheet that stands at the front of the buffer if the number is 0, else the line of the refusal
abbrev pub printed_numbers : Bytes → ℕ → ℕ → Bytes
printed_numbers out number length = cond (eqb number 0) (take length out) (refused_line number)

-- of an answer, by the number and the length that it tells
abbrev pub printed : Bytes → Result ℕ Refused → Bytes
printed out a = printed_numbers out (number_told a) (length_told a)
