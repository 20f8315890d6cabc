-- `compare` meets its contract. The invariant: the comparison of the whole is that from `i` on; two words that differ decide it.
-- Assumes nothing.
use mathlib.Core.Path.{◌≡◌}
use Prim.Native.Nat.{◌-◌, ◌≤◌}
use lib.ListN.{drop}
use Rattle.byte_order.specs.Compare.{ordering}
use Rattle.byte_order.proofs.compare.Given as goal

abbrev pub invariant-loop-i : goal.invariant-loop-i
invariant-loop-i l = (l.i ≤ l.n) × (ordering l.a l.b ≡ ordering (drop l.i l.a) (drop l.i l.b))

abbrev pub decreases-loop-i : goal.decreases-loop-i
decreases-loop-i l = l.n - l.i

abbrev pub invariant-loop-k : goal.invariant-loop-k
invariant-loop-k l = ordering l.a l.b ≡ ordering (drop l.k l.a) (drop l.k l.b)
