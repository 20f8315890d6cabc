-- `text::known_pairs_end` meets its contract. The loop's invariant: from `i` on pairs are left up to the text's end, and so no byte before the end is
-- the space. The measure is what is left of the text. Assumes nothing.
use Prim.Native.Nat.{◌-◌}
use Rattle.columns.specs.Columns.{stop_from}
use Rattle.columns.proofs.KnownTextLaws.{PairsLeft}
use Rattle.columns.proofs.text.known_pairs_end.Given as goal

abbrev pub invariant-loop-i : goal.invariant-loop-i
invariant-loop-i l = PairsLeft l.s l.at l.i

abbrev pub decreases-loop-i : goal.decreases-loop-i
decreases-loop-i l = stop_from l.s l.at - l.i
