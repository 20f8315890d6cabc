-- `print_refused` meets its contract: it writes the word, the number and the line's end, one after the other (`both`). Assumes nothing.
use Rattle.streams.proofs.WritingLaws.{both}
use Rattle.print_answer.specs.Printed.{refused_line}
use Rattle.print_answer.proofs.print_refused.Goals as goal

pub returns-clause-printed : goal.returns-clause-printed
unfolding refused_line
returns-clause-printed g c =
    both _ _ _ _ _ c.in_ok-write_all.ensures.bytes (both _ _ _ _ _ c.in_ok-print_decimal.ensures c.in_ok-write_all-2.ensures.bytes)
