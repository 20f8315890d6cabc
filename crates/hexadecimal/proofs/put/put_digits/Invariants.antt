-- `put_digits` meets its contract. The loop's invariant: the digits of the first `k` bytes are written. The measure is how many pairs are left. Assumes nothing.
use mathlib.Core.Path.{◌≡◌}
use Prim.Native.Nat.{◌-◌, ◌*◌, ◌/◌, ◌≤◌, min}
use lib.ListN.{length, take}
use Rattle.sheets.specs.Text.{hex}
use Rattle.buffer.specs.Over.{over}
use Rattle.hexadecimal.proofs.put.put_digits.Given as goal

abbrev pub invariant-loop-k : goal.invariant-loop-k
invariant-loop-k l = (l.k ≤ l.k-end) × (l.k-end ≡ l.n / 2) × (l.n ≡ min (2 * length l.s) (length l.initial.out)) × (l.out ≡ over (take (2 * l.k) (hex l.s)) l.initial.out)

abbrev pub decreases-loop-k : goal.decreases-loop-k
decreases-loop-k l = l.k-end - l.k
