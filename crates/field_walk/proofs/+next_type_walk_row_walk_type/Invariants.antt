-- The proof of the cycle of calls {next_type, walk_row, walk_type}: `line_measure` falls from a row to its types and `row_measure` from a line to its row, and
-- `next_type` stands between. The laws are those of crate walks, at the step of the call. Assumes nothing.
use mathlib.Core.Path.{◌≡◌}
use mathlib.Core.List.{List}
use lib.ListN.{length}
use Rattle.sheets.specs.FieldSheet.{Entry}
use Rattle.sheets.specs.Walk.{line_measure, row_measure}
use Rattle.walks.specs.Places.{RowAt}
use Rattle.walks.proofs.RowLaws.{Going}
use Rattle.field_walk.specs.Calls.{step_of, state_of}
use Prim.Native.Nat.{◌+◌, ◌-◌, ◌*◌, ◌≤◌}
use Rattle.field_walk.proofs.+next_type_walk_row_walk_type.Given as goal

abbrev pub decreases-next_type : goal.decreases-next_type
decreases-next_type l = 2 * line_measure l.tree.levels l.tree.inside + 1

abbrev pub invariant-walk_row-loop-i : goal.invariant-walk_row-loop-i
invariant-walk_row-loop-i l = (l.i ≤ l.row.count)
    × (length l.out ≡ length l.initial.out)
    × ((us es : List Entry) → RowAt l.s l.row.at l.row.count l.row.levels l.row.inside us es
    → Going (step_of l.call) l.s l.row.at l.row.count l.row.levels l.row.inside (state_of l.call l.row.levels l.row.inside) l.initial.out l.out l.here l.sum l.seen l.i us es)

abbrev pub decreases-walk_row : goal.decreases-walk_row
decreases-walk_row l = 2 * row_measure l.row.levels l.row.inside

abbrev pub decreases-walk_type : goal.decreases-walk_type
decreases-walk_type l = 2 * line_measure l.tree.levels l.tree.inside
