-- What printing a schema sheet's import tells (document 01, 'Bench cases': program `import`). Assumes nothing.
use Rattle.std.specs.Prelude.{Bool, ℕ, cond, eqb, take, replicate}
use Rattle.sheets.specs.Bytes.{Bytes}
use Rattle.sheets.specs.Outcome.{Outcome, import_outcome_in}
use Rattle.print_answer.specs.Printed.{refused_line}

-- "its output buffer has 65,536 bytes"
abbrev pub buffer_size : ℕ
buffer_size = 65536

-- the number of import into that buffer, under that order of the metadata: 0 if the field sheet is printed, else the refusal's
unfoldable pub printed_number : Bool → Bytes → ℕ
printed_number big s = (import_outcome_in big s (replicate buffer_size 0)).number

-- what is printed of an outcome: its sheet, or `refused N`
abbrev pub outcome_text : Outcome → Bytes
outcome_text o = cond (eqb o.number 0) (take o.size o.buffer) (refused_line o.number)

-- and of import
unfoldable pub printed_text : Bool → Bytes → Bytes
printed_text big s = outcome_text (import_outcome_in big s (replicate buffer_size 0))
