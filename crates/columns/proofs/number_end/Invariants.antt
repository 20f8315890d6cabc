-- `columns::number_end` meets its contract. The loop's invariant: the column from `at` on ends where the one from `i` on does.
-- The measure is what is left of the length. Assumes nothing.
use mathlib.Core.Path.{◌≡◌}
use Prim.Native.Nat.{◌-◌}
use lib.ListN.{length}
use Rattle.columns.specs.Columns.{stop_from}
use Rattle.columns.proofs.number_end.Given as goal

abbrev pub invariant-loop-i : goal.invariant-loop-i
invariant-loop-i l = stop_from l.s l.at ≡ stop_from l.s l.i

abbrev pub decreases-loop-i : goal.decreases-loop-i
decreases-loop-i l = length l.s - l.i
