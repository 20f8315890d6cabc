-- `number::number_at` meets its contract. The loop's invariant: `v` is the value of the digits before `i`, and digits stand from `i` to the column's
-- end, whose byte is below them. The measure is what is left of the column. Assumes nothing.
use Prim.Native.Nat.{◌-◌}
use Rattle.columns.specs.Columns.{stop_from}
use Rattle.columns.specs.NumberColumns.{HasNumber}
use Rattle.columns.proofs.NumberAtLaws.{Reading}
use Rattle.columns.proofs.number.number_at.Given as goal

abbrev pub invariant-loop-i : goal.invariant-loop-i
invariant-loop-i l = (h : HasNumber l.s l.at) × Reading l.s l.at h.0 l.i l.v

abbrev pub decreases-loop-i : goal.decreases-loop-i
decreases-loop-i l = stop_from l.s l.at - l.i
