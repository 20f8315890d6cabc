-- `columns::are_past_space` meets its contract. The loop's invariant: all bytes are past the space exactly if `ok` is true and those from `i` on are.
-- The measure is what is left of the length. Assumes nothing.
use mathlib.Core.Path.{◌≡◌}
use mathlib.Core.Bool.{◌&&◌}
use Prim.Native.Nat.{◌≤◌, ◌-◌}
use lib.ListN.{length, drop}
use Rattle.sheets.specs.Rule.{passes}
use Rattle.sheets.specs.Bytes.{all}
use Rattle.columns.specs.Columns.{past_space}
use Rattle.columns.proofs.are_past_space.Given as goal

abbrev pub invariant-loop-i : goal.invariant-loop-i
invariant-loop-i l = (l.i ≤ length l.b) × (passes (all past_space l.b) ≡ (l.ok && passes (all past_space (drop l.i l.b))))

abbrev pub decreases-loop-i : goal.decreases-loop-i
decreases-loop-i l = length l.b - l.i
