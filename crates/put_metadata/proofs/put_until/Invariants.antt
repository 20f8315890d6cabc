-- `put_until` meets its contract: the pairs before the key are those that were written and those that are left. The measure is what is left of the column. Assumes nothing.
use mathlib.Core.Path.{◌≡◌}
use Prim.Native.Nat.{◌-◌}
use lib.ListN.{length}
use Rattle.put_metadata.proofs.WalkLaws.{Until}
use Rattle.put_metadata.proofs.put_until.Given as goal

abbrev pub invariant-loop-walk : goal.invariant-loop-walk
invariant-loop-walk l = (length l.out ≡ length l.initial.out) × Until l.big l.pairs l.key l.initial.walk l.initial.out l.out l.walk

abbrev pub decreases-loop-walk : goal.decreases-loop-walk
decreases-loop-walk l = length l.pairs - l.walk.place
