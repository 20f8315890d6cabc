-- `lists::part_end` meets its contract. The loop's invariant: the place that is looked for is as far from i as the bytes from i on say. Assumes nothing.
use mathlib.Core.Path.{◌≡◌}
use Prim.Native.Nat.{◌+◌, ◌≤◌, max}
use lib.ListN.{length, drop}
use Rattle.sheets.specs.Parts.{bytes_before}
use Rattle.field_columns.proofs.lists.part_end.Given as goal

abbrev pub invariant-loop-i : goal.invariant-loop-i
invariant-loop-i l = (l.i ≤ max l.from (length l.s)) × (l.from + bytes_before l.sep (drop l.from l.s) ≡ l.i + bytes_before l.sep (drop l.i l.s))
