-- `put_at` meets its contract. The invariant: the first `i` of s are pasted over out from `at` on. Assumes nothing.
use mathlib.Core.Path.{◌≡◌}
use lib.Seq.{paste}
use Rattle.key_order.proofs.merge.put_at.Given as goal

abbrev pub invariant-loop-i : goal.invariant-loop-i
invariant-loop-i l = l.out ≡ paste l.initial.out l.at l.s l.i
