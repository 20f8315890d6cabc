-- `trees::form` meets its contract. The loop's invariant: one tree that is not bare stands from `at` on exactly if a row of as many trees as are
-- due, the first bare or not as the line above it says, stands from `here` on. The measure is what is left of the bytes. Assumes nothing.
use mathlib.Core.Bool.{false}
use mathlib.Core.Logic.{◌↔◌}
use Prim.Native.Nat.{◌-◌, ◌^◌, ◌<◌}
use lib.ListN.{length, drop}
use Rattle.sheets.specs.LineTrees.{Row}
use Rattle.sheets.specs.FieldTrees.{fields}
use Rattle.field_sheet.proofs.trees.form.Given as goal

abbrev pub invariant-loop-due : goal.invariant-loop-due
invariant-loop-due l = (l.due < 2 ^ 64) × (Row fields 1 false (drop l.at l.s) ↔ Row fields l.due l.bare (drop l.here l.s))

abbrev pub decreases-loop-due : goal.decreases-loop-due
decreases-loop-due l = length l.s - l.here
