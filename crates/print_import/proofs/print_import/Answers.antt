-- `print_import` meets its contract: the answer is the outcome of import into as many zeros. Assumes nothing.
use Rattle.std.proofs.Common.{ap}
use Rattle.sheets.specs.Outcome.{Outcome}
use Rattle.print_import.specs.Printed.{outcome_text, printed_number, printed_text}
use Rattle.print_import.proofs.NumberLaws.{number_known, text_known}
use Rattle.print_import.proofs.print_import.Goals as goal

pub returns-clause-number : goal.returns-clause-number
unfolding printed_number
returns-clause-number g c =
    number_known _ _ _ (ap (λ (o : Outcome). o.number) c.import-answer.ensures) c.print_answer.ensures.number

pub returns-clause-printed : goal.returns-clause-printed
unfolding printed_text
returns-clause-printed g c =
    text_known _ _ _ _ _ (ap outcome_text c.import-answer.ensures) c.print_answer.ensures.printed
