-- `are_pairs` meets its contract. The loop's invariant: the block is pairs exactly if `ok` is true and pairs stand from pair k on. Assumes nothing.
use mathlib.Core.Path.{◌≡◌}
use mathlib.Core.Bool.{◌&&◌}
use Prim.Native.Nat.{◌-◌, ◌*◌, ◌≤◌}
use lib.ListN.{drop}
use Rattle.sheets.specs.Rule.{passes}
use Rattle.columns.specs.Pairs.{pairs}
use Rattle.columns.proofs.ascii_pairs.are_pairs.Given as goal

abbrev pub invariant-loop-k : goal.invariant-loop-k
invariant-loop-k l = (l.k ≤ 16) × (passes (pairs l.b) ≡ (l.ok && passes (pairs (drop (2 * l.k) l.b))))

abbrev pub decreases-loop-k : goal.decreases-loop-k
decreases-loop-k l = 16 - l.k
