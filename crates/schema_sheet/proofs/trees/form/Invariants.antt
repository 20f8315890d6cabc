-- `trees::form` meets its contract. The loop's invariant: one tree stands from `at` on exactly if a row of as many trees as are due stands
-- from `here` on. The measure is what is left of the bytes. Assumes nothing.
use mathlib.Core.Logic.{◌↔◌}
use Prim.Native.Nat.{◌-◌, ◌^◌, ◌<◌}
use lib.ListN.{length, drop}
use Rattle.sheets.specs.SchemaTrees.{Row}
use Rattle.schema_sheet.proofs.trees.form.Given as goal

abbrev pub invariant-loop-due : goal.invariant-loop-due
invariant-loop-due l = (l.due < 2 ^ 64) × (Row 1 (drop l.at l.s) ↔ Row l.due (drop l.here l.s))

abbrev pub decreases-loop-due : goal.decreases-loop-due
decreases-loop-due l = length l.s - l.here
