-- `pass_digits` meets its contract. The loop's invariant: only digits stand before `i`. The measure is what is left of the length. Assumes nothing.
use mathlib.Core.Path.{◌≡◌}
use mathlib.Core.Bool.{false}
use Prim.Native.Nat.{ℕ, ◌+◌, ◌-◌, ◌≤◌}
use lib.ListN.{length, drop}
use Rattle.hexadecimal.specs.Hex.{is_digit}
use Rattle.field_pairs.specs.Pairs.{reach}
use Rattle.field_pairs.proofs.pass_digits.Given as goal

abbrev pub invariant-loop-i : goal.invariant-loop-i
invariant-loop-i l = (l.i ≤ length l.s) × ((b : ℕ) → is_digit b ≡ false → l.from + reach b (drop l.from l.s) ≡ l.i + reach b (drop l.i l.s))

abbrev pub decreases-loop-i : goal.decreases-loop-i
decreases-loop-i l = length l.s - l.i
