-- `scan` meets its contract: the first such byte is where the one from `i` on is. Assumes nothing.
use mathlib.Core.Path.{◌≡◌}
use Prim.Native.Nat.{◌+◌}
use lib.ListN.{drop}
use Rattle.field_pairs.specs.Pairs.{reach}
use Rattle.field_pairs.proofs.scan.Given as goal

abbrev pub invariant-loop-i : goal.invariant-loop-i
invariant-loop-i l = l.from + reach l.b (drop l.from l.s) ≡ l.i + reach l.b (drop l.i l.s)
