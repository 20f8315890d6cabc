-- `number_line::read_numbers` meets its contract. The loop's invariant: the first numbers are read, a space after each, and the text goes on at i. A line
-- that stood there would go on as the text does (`NumbersLaws`). Assumes nothing.
use Rattle.recorded_list.proofs.NumbersLaws.{SpacedTo}
use Rattle.recorded_list.proofs.number_line.read_numbers.Given as goal

abbrev pub invariant-loop-n : goal.invariant-loop-n
invariant-loop-n l = SpacedTo l.s l.at l.spaced l.n-index l.i
