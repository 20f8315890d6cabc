-- `digits` meets its contract. The invariant: the answer is that of the bytes from place i on, after digits whose value is v. Assumes nothing.
use mathlib.Core.Path.{◌≡◌}
use Prim.Native.Nat.{◌+◌, ◌≤◌}
use lib.ListN.{drop}
use Rattle.sheets.specs.Refusal.{bad_lines}
use Rattle.decimal.specs.Digits.{digits_below}
use Rattle.decimal.proofs.digits.Given as goal

abbrev pub invariant-loop-i : goal.invariant-loop-i
invariant-loop-i l = (l.v ≤ l.max) × (digits_below bad_lines (l.max + 1) 0 (drop l.at l.s) ≡ digits_below bad_lines (l.max + 1) l.v (drop l.i l.s))
