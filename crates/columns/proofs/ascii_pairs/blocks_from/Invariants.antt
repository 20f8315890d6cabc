-- `blocks_from` meets its contract. The loop's invariant: the pairs from `at` on end where those from i on do. Assumes nothing.
use mathlib.Core.Path.{◌≡◌}
use Prim.Native.Nat.{◌-◌, ◌≤◌}
use lib.ListN.{length}
use Rattle.columns.specs.Pairs.{pairs_from}
use Rattle.columns.proofs.ascii_pairs.blocks_from.Given as goal

abbrev pub invariant-loop-i : goal.invariant-loop-i
invariant-loop-i l = (l.i ≤ length l.s) × (pairs_from l.s l.at ≡ pairs_from l.s l.i)

abbrev pub decreases-loop-i : goal.decreases-loop-i
decreases-loop-i l = length l.s - l.i
