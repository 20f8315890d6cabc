-- `is_ascii_hex` meets its contract, as `is_ascii` does, at the bytes of the text. Assumes nothing.
use mathlib.Core.Path.{◌≡◌}
use mathlib.Core.Bool.{◌&&◌}
use Prim.Native.Nat.{◌-◌, ◌/◌}
use lib.ListN.{length, drop}
use Rattle.hexadecimal.specs.Hex.{bytes_of}
use Rattle.utf8.specs.Tables.{all_ascii}
use Rattle.utf8.proofs.is_ascii_hex.Given as goal

abbrev pub invariant-loop-k : goal.invariant-loop-k
invariant-loop-k l = (l.k-end ≡ length l.s / 2) × (all_ascii (bytes_of l.s) ≡ (l.ok && all_ascii (drop l.k (bytes_of l.s))))

abbrev pub decreases-loop-k : goal.decreases-loop-k
decreases-loop-k l = length l.s / 2 - l.k
