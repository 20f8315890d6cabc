-- `merge` meets its contract. The invariant: a and b merged are what is written, and then what is left of a merged with what is left of b.
-- The first entries that are left decide what is written next. Assumes nothing.
use mathlib.Core.List.{◌++◌}
use mathlib.Core.Path.{◌≡◌}
use Prim.Native.Nat.{◌-◌, ◌+◌, ◌≤◌}
use lib.ListN.{length, take, drop}
use Rattle.key_order.specs.Merge.{merged}
use Rattle.key_order.specs.Entry.{rest_at}
use Rattle.key_order.proofs.merge.merge.Given as goal

abbrev pub invariant-loop-i : goal.invariant-loop-i
invariant-loop-i l = (l.i ≤ length l.a) × (l.j ≤ length l.b) × (l.k ≤ l.i + l.j) × (length l.out ≡ length l.initial.out)
    × (merged (rest_at l.text l.shared) l.a l.b ≡ take l.k l.out ++ merged (rest_at l.text l.shared) (drop l.i l.a) (drop l.j l.b))

abbrev pub decreases-loop-i : goal.decreases-loop-i
decreases-loop-i l = (length l.a - l.i) + (length l.b - l.j)
