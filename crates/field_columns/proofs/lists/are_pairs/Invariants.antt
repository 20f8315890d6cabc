-- `lists::are_pairs` meets its contract. The loop's invariant: the pairs are read and in order up to `end` (`Going`). Assumes nothing.
use Prim.Native.Nat.{◌-◌}
use lib.ListN.{length}
use Rattle.field_columns.proofs.GoingLaws.{Going}
use Rattle.field_columns.proofs.lists.are_pairs.Given as goal

abbrev pub invariant-loop-end : goal.invariant-loop-end
invariant-loop-end l = Going l.c l.start l.stop l.end

abbrev pub decreases-loop-end : goal.decreases-loop-end
decreases-loop-end l = length l.c - l.end
