-- `text::pairs_lack_zero` meets its contract. The loop's invariant: the bytes lack byte 00 exactly if `ok` is true and those from byte `k` on do.
-- The measure is what is left of the pairs. Assumes nothing.
use mathlib.Core.Path.{◌≡◌}
use mathlib.Core.Bool.{◌&&◌}
use Prim.Native.Nat.{◌-◌, ◌/◌}
use lib.ListN.{length, drop}
use Rattle.sheets.specs.Rule.{passes}
use Rattle.sheets.specs.Bytes.{lacks}
use Rattle.hexadecimal.specs.Hex.{bytes_of}
use Rattle.columns.proofs.text.pairs_lack_zero.Given as goal

abbrev pub invariant-loop-k : goal.invariant-loop-k
invariant-loop-k l = (l.k-end ≡ length l.s / 2) × (passes (lacks 0 (bytes_of l.s)) ≡ (l.ok && passes (lacks 0 (drop l.k (bytes_of l.s)))))

abbrev pub decreases-loop-k : goal.decreases-loop-k
decreases-loop-k l = length l.s / 2 - l.k
