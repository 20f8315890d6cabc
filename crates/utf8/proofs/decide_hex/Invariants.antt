-- `decide_hex` meets its contract, as `decide` does, at the bytes of the text. Assumes nothing.
use mathlib.Core.Path.{◌≡◌}
use Prim.Native.Nat.{◌<◌, ◌-◌, ◌/◌}
use lib.ListN.{length, drop}
use Rattle.sheets.specs.Utf8.{is_utf8}
use Rattle.sheets.proofs.Utf8Laws.{from_state}
use Rattle.hexadecimal.specs.Hex.{bytes_of}
use Rattle.utf8.proofs.decide_hex.Given as goal

abbrev pub invariant-loop-k : goal.invariant-loop-k
invariant-loop-k l = (l.k-end ≡ length l.s / 2) × (l.q < 9) × (is_utf8 (bytes_of l.s) ≡ from_state l.q (drop l.k (bytes_of l.s)))

abbrev pub decreases-loop-k : goal.decreases-loop-k
decreases-loop-k l = length l.s / 2 - l.k
