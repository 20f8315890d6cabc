-- `put_low` meets its contract. The loop's invariant is `Lowering`. Assumes nothing.
use Prim.Native.Nat.{◌-◌}
use Rattle.put_schema_leaf.proofs.PutLaws.{Lowering}
use Rattle.put_schema_leaf.proofs.put_low.Given as goal

abbrev pub invariant-loop-i : goal.invariant-loop-i
invariant-loop-i l = Lowering l.initial.out l.at l.w l.len l.end l.out l.rest l.i

abbrev pub decreases-loop-i : goal.decreases-loop-i
decreases-loop-i l = l.end - l.i
