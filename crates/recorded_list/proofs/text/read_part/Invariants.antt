-- `text::read_part` meets its contract. The loop's invariant: the first bytes are read, and the text goes on at i. A part that stood there would go on
-- as the text does (`PartLaws`). Assumes nothing.
use mathlib.Core.Path.{◌≡◌}
use lib.ListN.{length}
use Rattle.recorded_list.proofs.PartLaws.{ReadTo}
use Rattle.recorded_list.proofs.text.read_part.Given as goal

abbrev pub invariant-loop-b : goal.invariant-loop-b
invariant-loop-b l = (length l.part ≡ l.count) × ReadTo l.s l.at l.part l.b-index l.i
