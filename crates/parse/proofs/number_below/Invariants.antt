-- `parse::number_below` meets its contract. The loop's invariant: the bytes from `at` on make what those from `i` on make of the value `v` so far.
-- Assumes nothing.
use mathlib.Core.Path.{◌≡◌}
use Prim.Native.Nat.{◌≤◌, ◌+◌}
use lib.ListN.{length, drop}
use Rattle.sheets.specs.Refusal.{bad_number}
use Rattle.hexadecimal.specs.Hex.{bytes_of}
use Rattle.decimal.specs.Digits.{digits_below}
use Rattle.parse.specs.Parse.{number_below}
use Rattle.parse.proofs.number_below.Given as goal

abbrev pub invariant-loop-i : goal.invariant-loop-i
invariant-loop-i l = (l.n ≡ length (bytes_of l.s)) × (l.v ≤ l.max) × (number_below (l.max + 1) (drop l.at (bytes_of l.s)) ≡ digits_below bad_number (l.max + 1) l.v (drop l.i (bytes_of l.s)))
