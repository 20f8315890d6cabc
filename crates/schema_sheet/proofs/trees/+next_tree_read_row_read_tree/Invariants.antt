-- The proof of the cycle of calls {next_tree, read_tree, read_row}. The measure is the number of levels that are left, three times, and one more in `next_tree`,
-- two more in `read_row`. In the loop of `read_row`: the row is read as far as the trees that are due (`Reading`). Assumes nothing.
use Prim.Native.Nat.{◌+◌, ◌-◌}
use Rattle.schema_sheet.proofs.ReadLaws.{Reading}
use Rattle.schema_sheet.proofs.trees.+next_tree_read_row_read_tree.Given as goal

abbrev pub decreases-next_tree : goal.decreases-next_tree
decreases-next_tree l = l.levels + l.levels + l.levels + 1

abbrev pub invariant-read_row-loop-i : goal.invariant-read_row-loop-i
invariant-read_row-loop-i l = Reading l.s l.at l.count l.levels l.here (l.count - l.i)

abbrev pub decreases-read_row : goal.decreases-read_row
decreases-read_row l = l.levels + l.levels + l.levels + 2

abbrev pub decreases-read_tree : goal.decreases-read_tree
decreases-read_tree l = l.levels + l.levels + l.levels
