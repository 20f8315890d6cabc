-- The proof of the cycle of calls {read_tree, read_row}. The measure is four times the number of levels that are left, two more outside an extension,
-- and one more in `read_row`. In the loop of `read_row`: the row is read as far as the trees that are due (`Reading`). Assumes nothing.
use Prim.Native.Nat.{◌+◌, ◌-◌, ◌*◌}
use Rattle.field_sheet.proofs.LevelLaws.{spare}
use Rattle.field_sheet.proofs.ReadLaws.{Reading}
use Rattle.field_sheet.proofs.trees.+read_row_read_tree.Given as goal

abbrev pub invariant-read_row-loop-i : goal.invariant-read_row-loop-i
invariant-read_row-loop-i l = Reading l.s l.at l.count l.bare l.inside l.levels l.strict l.here (l.count - l.i) l.next

abbrev pub decreases-read_row : goal.decreases-read_row
decreases-read_row l = 4 * l.levels + spare l.inside + 1

abbrev pub decreases-read_tree : goal.decreases-read_tree
decreases-read_tree l = 4 * l.levels + spare l.inside
