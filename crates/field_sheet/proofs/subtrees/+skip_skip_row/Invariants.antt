-- The proof of the cycle of calls {skip, skip_row}. The measure is four times the number of levels that are left, two more outside an extension, and one
-- more in `skip_row`. In the loop of `skip_row`: the trees that are left stand here, and none that was passed has too many levels. Assumes nothing.
use mathlib.Core.Path.{◌≡◌}
use mathlib.Core.List.{List, ◌++◌}
use Prim.Native.Nat.{◌+◌, ◌-◌, ◌*◌, ◌≤◌}
use lib.ListN.{length, drop}
use Rattle.sheets.specs.FieldSheet.{Entry}
use Rattle.sheets.specs.LineTrees.{Standing}
use Rattle.sheets.specs.FieldTrees.{fields}
use Rattle.field_sheet.proofs.LevelLaws.{spare}
use Rattle.field_sheet.proofs.SkipLaws.{Going}
use Rattle.field_sheet.proofs.subtrees.+skip_skip_row.Given as goal

abbrev pub decreases-skip : goal.decreases-skip
decreases-skip l = 4 * l.most + spare l.inside

abbrev pub invariant-skip_row-loop-i : goal.invariant-skip_row-loop-i
invariant-skip_row-loop-i l = (l.at ≤ l.here) × (l.here ≤ length l.s) × ((us ts : List Entry) → Standing fields (drop l.at l.s) (us ++ ts) → length us ≡ l.count → Going l.s l.inside l.most l.here (l.count - l.i) us ts)

abbrev pub decreases-skip_row : goal.decreases-skip_row
decreases-skip_row l = 4 * l.most + spare l.inside + 1
