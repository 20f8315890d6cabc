-- `put` meets its contract. The invariant: the first i bytes of s are written. Assumes nothing.
use mathlib.Core.Path.{◌≡◌}
use Prim.Native.Nat.{min}
use lib.ListN.{length, take}
use Rattle.buffer.specs.Over.{over}
use Rattle.buffer.proofs.put.Given as goal

abbrev pub invariant-loop-i : goal.invariant-loop-i
invariant-loop-i l = (l.n ≡ min (length l.s) (length l.initial.out)) × (l.out ≡ over (take l.i l.s) l.initial.out)
