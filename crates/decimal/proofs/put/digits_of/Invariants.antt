-- `digits_of` meets its contract. The invariant: n's digits are those of m and then what the array holds from place i on; m has at most i digits. Assumes nothing.
use Rattle.decimal.proofs.WriteLaws.{before}
use Rattle.sheets.specs.Number.{decimal}
use lib.ListN.{length, drop}
use Prim.Native.Nat.{◌≤◌, ◌<◌, ◌^◌}
use mathlib.Core.Path.{◌≡◌}
use Rattle.decimal.proofs.put.digits_of.Given as goal

abbrev pub invariant-loop-m : goal.invariant-loop-m
invariant-loop-m l = (0 < l.i) × (l.i ≤ 20) × (length l.bytes ≡ 20) × (l.m < 10 ^ l.i) × (decimal l.n ≡ before l.m (drop l.i l.bytes))

abbrev pub decreases-loop-m : goal.decreases-loop-m
decreases-loop-m l = l.m
