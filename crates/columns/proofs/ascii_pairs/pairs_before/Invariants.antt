-- `pairs_before` meets its contract. The loop's invariant: the pairs from `at` on end where those from i on do. Assumes nothing.
use mathlib.Core.Path.{◌≡◌}
use Prim.Native.Nat.{◌+◌, ◌-◌, ◌≤◌}
use Rattle.columns.specs.Columns.{part}
use Rattle.columns.specs.Pairs.{pairs_length}
use Rattle.columns.proofs.ascii_pairs.pairs_before.Given as goal

abbrev pub invariant-loop-i : goal.invariant-loop-i
invariant-loop-i l = (l.i ≤ l.end) × (l.at + pairs_length (part l.s l.at l.end) ≡ l.i + pairs_length (part l.s l.i l.end))

abbrev pub decreases-loop-i : goal.decreases-loop-i
decreases-loop-i l = l.end - l.i
