-- `lists::are_ids` meets its contract. The loop's invariant: the parts are ids exactly if those after `end` are. Assumes nothing.
use mathlib.Core.Path.{◌≡◌}
use Prim.Native.Nat.{◌+◌, ◌-◌, ◌≤◌}
use lib.ListN.{length}
use Rattle.sheets.specs.Bytes.{split}
use Rattle.sheets.specs.Parts.{parts_from}
use Rattle.field_columns.specs.Lists.{are_ids}
use Rattle.field_columns.proofs.lists.are_ids.Given as goal

abbrev pub invariant-loop-end : goal.invariant-loop-end
invariant-loop-end l = (l.end ≤ length l.c) × (are_ids (split 44 l.c) ≡ are_ids (parts_from l.c (l.end + 1)))

abbrev pub decreases-loop-end : goal.decreases-loop-end
decreases-loop-end l = length l.c - l.end
