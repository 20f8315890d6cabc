-- `copy_part` meets its contract. The loop's invariant is `Copying`. Assumes nothing.
use Rattle.copy_part.proofs.CopyLaws.{Copying}
use Prim.Native.Nat.{◌-◌}
use Rattle.copy_part.proofs.copy_part.Given as goal

abbrev pub invariant-loop-i : goal.invariant-loop-i
invariant-loop-i l = Copying l.initial.out l.to l.s l.from l.end l.out l.i l.j

abbrev pub decreases-loop-i : goal.decreases-loop-i
decreases-loop-i l = l.end - l.i
