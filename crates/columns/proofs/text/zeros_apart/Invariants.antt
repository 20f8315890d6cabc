-- `text::zeros_apart` meets its contract. The loop's invariant: no two zeros adjoin exactly if `ok` is true and none do from the byte before `k` on. The
-- measure is what is left of the length. Assumes nothing.
use mathlib.Core.Path.{◌≡◌}
use mathlib.Core.Bool.{◌&&◌}
use Prim.Native.Nat.{◌-◌, ◌≤◌}
use lib.ListN.{length, drop}
use Rattle.columns.specs.TextColumns.{zeros_apart}
use Rattle.columns.proofs.text.zeros_apart.Given as goal

abbrev pub invariant-loop-k : goal.invariant-loop-k
invariant-loop-k l = (l.k-end ≡ length l.s) × (1 ≤ l.k) × (zeros_apart l.s ≡ (l.ok && zeros_apart (drop (l.k - 1) l.s)))

abbrev pub decreases-loop-k : goal.decreases-loop-k
decreases-loop-k l = length l.s - l.k
